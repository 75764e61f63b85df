-- Documents 01, "The sheet", and 02, C-13: what reading either sheet refuses, and what it answers and leaves.
-- Assumes nothing.
use Rattle.std.specs.Prelude.{ℕ, ◌*◌, ◌≡◌, Bool, cond, ◌&&◌, List, [], ◌∷◌, ◌++◌, eqb, leb, length}
use Rattle.std.proofs.Common.{sym, ◌∙◌}
use Rattle.meaning.specs.Plan.{edge_length, visit_length, constraint_length}
use Rattle.refusals.specs.declared.Refusal.{Refusal}
use Rattle.refusals.specs.Table.{whole, refusal}
use Rattle.form.specs.declared.Head.{Head}
use Rattle.form.specs.Form.{form_in, head_by, contents_by}
use Rattle.form.specs.Refusals.{open_table, held_table}
use Rattle.form.specs.Over.{over}
use Rattle.reading.specs.declared.Read.{Read}

-- all that reading is given
pub record Input : Type 0 where
  pub sheet : List ℕ
  pub workloads : List ℕ
  pub outside : List ℕ
  pub edges : List ℕ
  pub counts : List ℕ
  pub visits : List ℕ
  pub constraints : List ℕ
  pub colouring : List ℕ

-- ---- what it refuses

-- lists of these lengths are long enough for so many of each
abbrev pub enough : Head → ℕ → ℕ → ℕ → ℕ → ℕ → ℕ → ℕ → Bool
enough h workloads outside edges counts visits constraints colouring =
    leb h.regions workloads
    && leb h.regions outside
    && leb (edge_length * h.edges) edges
    && leb h.flights counts
    && leb (visit_length * h.visits) visits
    && leb (constraint_length * h.constraints) constraints
    && leb h.regions colouring

-- the lent lists are
unfoldable pub room_right : Input → Bool
room_right i =
    enough (head_by i.sheet) (length i.workloads) (length i.outside) (length i.edges) (length i.counts) (length i.visits) (length i.constraints) (length i.colouring)

-- what the sheet is refused for, then 39 for the lent lists
unfoldable pub read_refusal : Input → Refusal
read_refusal i =
    let f = form_in i.sheet in
    refusal (open_table f i.sheet ++ held_table f i.sheet ++ (whole 39 (room_right i) ∷ []))

-- ---- what it answers and leaves

-- all that a caller sees when reading is over
pub record Outcome : Type 0 where
  pub answer : Read
  pub workloads : List ℕ
  pub outside : List ℕ
  pub edges : List ℕ
  pub counts : List ℕ
  pub visits : List ℕ
  pub constraints : List ℕ
  pub colouring : List ℕ

-- what a refused reading answers, and, with the head's numbers, what another does
abbrev pub refused_answer : Refusal → Read
refused_answer r = record { code = r.code; place = r.place; regions = 0; sectors = 0; edges = 0; constraints = 0; flights = 0; visits = 0 }

abbrev pub held_answer : Head → Read
held_answer h =
    record {
      code = 0;
      place = 0;
      regions = h.regions;
      sectors = h.sectors;
      edges = h.edges;
      constraints = h.constraints;
      flights = h.flights;
      visits = h.visits;
    }

-- a refused reading changes nothing
unfoldable pub refused_by : Input → Refusal → Outcome
refused_by i r =
    record {
      answer = refused_answer r;
      workloads = i.workloads;
      outside = i.outside;
      edges = i.edges;
      counts = i.counts;
      visits = i.visits;
      constraints = i.constraints;
      colouring = i.colouring;
    }

-- a reading that is not refused leaves the contents in the lent lists
unfoldable pub held : Input → Outcome
held i =
    let k = contents_by i.sheet in
    record {
      answer = held_answer (head_by i.sheet);
      workloads = over k.workloads i.workloads;
      outside = over k.outside i.outside;
      edges = over k.edges i.edges;
      counts = over k.counts i.counts;
      visits = over k.visits i.visits;
      constraints = over k.constraints i.constraints;
      colouring = over k.colouring i.colouring;
    }

-- the one outcome of reading
unfoldable pub outcome : Input → Outcome
outcome i = cond (eqb (read_refusal i).code 0) (held i) (refused_by i (read_refusal i))

-- what reading promises
pub record Promise (i : Input) (o : Outcome) : Type 0 where
  pub answer : o.answer ≡ (outcome i).answer
  pub workloads : o.workloads ≡ (outcome i).workloads
  pub outside : o.outside ≡ (outcome i).outside
  pub edges : o.edges ≡ (outcome i).edges
  pub counts : o.counts ≡ (outcome i).counts
  pub visits : o.visits ≡ (outcome i).visits
  pub constraints : o.constraints ≡ (outcome i).constraints
  pub colouring : o.colouring ≡ (outcome i).colouring

-- an outcome that meets the promise is that outcome
pub is_outcome : {i : Input} {o : Outcome} → Promise i o → o ≡ outcome i
is_outcome p = rw (← p.answer, ← p.workloads, ← p.outside, ← p.edges, ← p.counts, ← p.visits, ← p.constraints, ← p.colouring)

-- for every input, refusals included, the promise leaves one answer and one content of the lent lists
pub unique : {i : Input} {o o' : Outcome} → Promise i o → Promise i o' → o ≡ o'
unique p q = is_outcome p ∙ sym (is_outcome q)

-- an input and an outcome from their parts
abbrev pub input : List ℕ → List ℕ → List ℕ → List ℕ → List ℕ → List ℕ → List ℕ → List ℕ → Input
input sheet workloads outside edges counts visits constraints colouring =
    record { sheet = sheet; workloads = workloads; outside = outside; edges = edges; counts = counts; visits = visits; constraints = constraints; colouring = colouring }

abbrev pub left : Read → List ℕ → List ℕ → List ℕ → List ℕ → List ℕ → List ℕ → List ℕ → Outcome
left answer workloads outside edges counts visits constraints colouring =
    record { answer = answer; workloads = workloads; outside = outside; edges = edges; counts = counts; visits = visits; constraints = constraints; colouring = colouring }
