-- What is held, handed over to lent lists.
-- Assumes nothing.
use Rattle.std.specs.Prelude.{ℕ, ◌*◌, ◌≤◌, ◌≡◌, List}
use Rattle.meaning.specs.Plan.{edge_length, visit_length, constraint_length}
use Rattle.form.specs.declared.Head.{Head}
use Rattle.form.specs.Form.{Contents}
use Rattle.form.specs.Over.{over}

-- lists of these lengths have room for so many of each
pub record Room (h : Head) (workloads outside edges counts visits constraints colouring : ℕ) : Type 0 where
  pub for_workloads : h.regions ≤ workloads
  pub for_outside : h.regions ≤ outside
  pub for_edges : edge_length * h.edges ≤ edges
  pub for_counts : h.flights ≤ counts
  pub for_visits : visit_length * h.visits ≤ visits
  pub for_constraints : constraint_length * h.constraints ≤ constraints
  pub for_colouring : h.regions ≤ colouring

-- lists that hold contents at their fronts, and beyond them what they held before
pub record HandedOver (k : Contents) (w₀ o₀ e₀ c₀ v₀ t₀ s₀ w o e c v t s : List ℕ) : Type 0 where
  pub workloads : w ≡ over k.workloads w₀
  pub outside : o ≡ over k.outside o₀
  pub edges : e ≡ over k.edges e₀
  pub counts : c ≡ over k.counts c₀
  pub visits : v ≡ over k.visits v₀
  pub constraints : t ≡ over k.constraints t₀
  pub colouring : s ≡ over k.colouring s₀
