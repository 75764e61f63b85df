-- Documents 01, "The sheet", and 02, C-13: what writing refuses, and what it answers and leaves.
-- Assumes nothing.
use Rattle.std.specs.Prelude.{ℕ, ◌*◌, ◌≡◌, cond, List, [], ◌∷◌, ◌++◌, eqb, leb, length}
use Rattle.std.proofs.Common.{sym, ◌∙◌}
use Rattle.meaning.specs.Plan.{no_outside}
use Rattle.refusals.specs.declared.Refusal.{Refusal}
use Rattle.refusals.specs.Table.{whole, refusal}
use Rattle.blocks.specs.Block.{block_length}
use Rattle.form.specs.declared.Form.{Form}
use Rattle.form.specs.Form.{Contents, head_of, dues, sheet_of}
use Rattle.form.specs.Refusals.{contents_table}
use Rattle.form.specs.Over.{over}
use Rattle.writing.specs.declared.Written.{Written}

-- how many bytes the sheet of some contents takes
abbrev pub sheet_bytes : Form → Contents → ℕ
sheet_bytes f k = block_length * length (dues f (head_of k))

-- the call's codes on a plan, as the call has them, then 40 for the lent bytes
unfoldable pub write_refusal : Form → Contents → ℕ → Refusal
write_refusal f k room = refusal (contents_table f k ++ (whole 40 (leb (sheet_bytes f k) room) ∷ []))

-- all that a caller sees when writing is over
pub record Outcome : Type 0 where
  pub answer : Written
  pub sheet : List ℕ

-- what a refused writing answers, and what another does
abbrev pub refused_answer : Refusal → Written
refused_answer r = record { code = r.code; place = r.place; bytes = 0 }

abbrev pub written_answer : ℕ → Written
written_answer bytes = record { code = 0; place = 0; bytes = bytes }

-- a refused writing changes nothing; another leaves the sheet at the front of the lent bytes
unfoldable pub outcome : Form → Contents → List ℕ → Outcome
outcome f k lent =
    let r = write_refusal f k (length lent) in
    cond (eqb r.code 0)
    (record { answer = written_answer (sheet_bytes f k); sheet = over (sheet_of f k) lent })
    (record { answer = refused_answer r; sheet = lent })

-- what writing promises
pub record Promise (f : Form) (k : Contents) (lent : List ℕ) (o : Outcome) : Type 0 where
  pub answer : o.answer ≡ (outcome f k lent).answer
  pub sheet : o.sheet ≡ (outcome f k lent).sheet

-- an outcome that meets the promise is that outcome
pub is_outcome : {f : Form} {k : Contents} {lent : List ℕ} {o : Outcome} → Promise f k lent o → o ≡ outcome f k lent
is_outcome p = rw (← p.answer, ← p.sheet)

-- for every input, refusals included, the promise leaves one answer and one content of the lent bytes
pub unique : {f : Form} {k : Contents} {lent : List ℕ} {o o' : Outcome} → Promise f k lent o → Promise f k lent o' → o ≡ o'
unique p q = is_outcome p ∙ sym (is_outcome q)

-- contents and an outcome from their parts
abbrev pub contents : ℕ → ℕ → List ℕ → List ℕ → List ℕ → List ℕ → List ℕ → List ℕ → List ℕ → Contents
contents R S workloads outside edges counts visits constraints colouring =
    record { R = R; S = S; workloads = workloads; outside = outside; edges = edges; counts = counts; visits = visits; constraints = constraints; colouring = colouring }

-- those of a first sheet: no outside areas and no flights
abbrev pub plain : ℕ → ℕ → List ℕ → List ℕ → List ℕ → List ℕ → Contents
plain R S workloads edges constraints colouring = contents R S workloads (no_outside R) edges [] [] constraints colouring

abbrev pub left : Written → List ℕ → Outcome
left answer sheet = record { answer = answer; sheet = sheet }
