-- All numbers of a sheet in one list: the lists of its contents, one after the other.
-- Assumes nothing.
use Rattle.std.specs.Prelude.{ℕ, ◌+◌, ◌*◌, ◌≡◌, List}
use Rattle.packing.specs.Part.{part}
use Rattle.meaning.specs.Plan.{edge_length, visit_length, constraint_length, most_regions, most_edges, most_constraints, most_flights}
use Rattle.meaning.specs.declared.Lists.{Lists}
use Rattle.refusals.specs.declared.Refusal.{Refusal}
use Rattle.form.specs.declared.Form.{Form}
use Rattle.form.specs.declared.Head.{Head}
use Rattle.form.specs.Form.{Contents, head_in, contents_in}
use Rattle.form.specs.FormLaws.{most_visits_in_all}
use Rattle.form.specs.Refusals.{sheet_refusal}

-- where each list starts; the workloads come first
abbrev pub outside_at : Head → ℕ
outside_at h = h.regions

abbrev pub edges_at : Head → ℕ
edges_at h = outside_at h + h.regions

abbrev pub constraints_at : Head → ℕ
constraints_at h = edges_at h + edge_length * h.edges

abbrev pub colouring_at : Head → ℕ
colouring_at h = constraints_at h + constraint_length * h.constraints

abbrev pub counts_at : Head → ℕ
counts_at h = colouring_at h + h.regions

abbrev pub visits_at : Head → ℕ
visits_at h = counts_at h + h.flights

-- and where the last ends
abbrev pub held_end : Head → ℕ
held_end h = visits_at h + visit_length * h.visits

-- no sheet has more numbers
abbrev pub most_held : ℕ
most_held = 3 * most_regions + edge_length * most_edges + constraint_length * most_constraints + most_flights + visit_length * most_visits_in_all

-- the contents that such a list has
abbrev pub contents_held : Head → List ℕ → Contents
contents_held h held =
    record {
      R = h.regions;
      S = h.sectors;
      workloads = part 0 (outside_at h) held;
      outside = part (outside_at h) (edges_at h) held;
      edges = part (edges_at h) (constraints_at h) held;
      counts = part (counts_at h) (visits_at h) held;
      visits = part (visits_at h) (held_end h) held;
      constraints = part (constraints_at h) (colouring_at h) held;
      colouring = part (colouring_at h) (counts_at h) held;
    }

-- these lists are those of contents, but for the colouring
pub record Lends (k : Contents) (l : Lists) : Type 0 where
  pub sectors : l.sectors ≡ k.S
  pub workloads : l.workloads.now ≡ k.workloads
  pub outside : l.outside.now ≡ k.outside
  pub edges : l.edges.now ≡ k.edges
  pub counts : l.counts.now ≡ k.counts
  pub visits : l.visits.now ≡ k.visits
  pub constraints : l.constraints.now ≡ k.constraints

-- what holding a sheet of a form leaves: why it is refused, and where it is not, its contents
pub record Holds (f : Form) (sheet : List ℕ) (r : Refusal) (held : List ℕ) : Type 0 where
  pub refusal : r ≡ sheet_refusal f sheet
  pub contents : r.code ≡ 0 → contents_held (head_in f sheet) held ≡ contents_in f sheet
