-- Writing, as either sheet: what it answers where the contents are refused, and that what is put down where they are not is the outcome.
-- Assumes nothing.
use Rattle.std.specs.Prelude.{ℕ, ◌≡◌, refl, Bool, true, false, cond, List, [], ◌∷◌, eqb, length}
use Rattle.std.proofs.Math.Path.{sym}
use Rattle.std.proofs.Common.{◌∙◌}
use borrow.Author.Tests.{ne_eqb}
use Rattle.std.proofs.Math.Dec.{leb}
use Rattle.refusals.specs.declared.Refusal.{Refusal}
use Rattle.refusals.specs.Table.{refused, whole, refusal, plan_table, plan_refusal}
use Rattle.refusals.specs.Passed.{passed, front-given, front_passed}
use Rattle.form.specs.declared.Form.{Form}
use Rattle.form.specs.declared.Form.TheVariants.{First, Second}
use Rattle.form.specs.Form.{outside_count, Contents, head_of, carried, stored, numbers, sheet_of}
use Rattle.form.specs.FormLaws.{HeadLimits}
use Rattle.form.proofs.ContentsLaws.{Counted, valid_contents, counted_valid, limits_valid}
use Rattle.form.specs.Refusals.{contents_table, contents_refusal}
use Rattle.writing.specs.declared.Written.{Written}
use Rattle.writing.specs.Promise.{sheet_bytes, write_refusal, Outcome, refused_answer, outcome, Promise, left}
use Rattle.writing.specs.Sections.{SoMany, numbers_with}
use Rattle.writing.specs.Roomy.{Puts}

-- ---- contents that are handed over

-- contents have as many of each as their head says, as the lists that are handed over for a form
abbrev pub Handed : Form → Contents → Type 0
Handed f k = SoMany f (head_of k) k.workloads (stored f k.outside) k.edges k.counts k.visits k.constraints k.colouring

-- the numbers of each kind in these lists
abbrev pub handed_numbers : Form → Contents → List (List ℕ)
handed_numbers f k = numbers_with f (head_of k) k.workloads (stored f k.outside) k.edges k.counts k.visits k.constraints k.colouring

-- the outside areas that are stored are as many as the form has
length-stored : (f : Form) (k : Contents) → length k.outside ≡ k.R → length (stored f k.outside) ≡ outside_count f k.R
length-stored First k e = refl
length-stored Second k e = e

-- contents that are counted are so many
handed : (f : Form) (k : Contents) → Counted (head_of k) k → Handed f k
handed f k n =
    record {
      of_workloads = n.workloads;
      of_outside_lem = length-stored f k n.outside;
      of_edges = n.edges;
      of_counts = n.counts;
      of_visits = n.visits;
      of_constraints = n.constraints;
      of_colouring = n.colouring;
    }

-- ---- the outcome

-- the row on the lent bytes, read by itself, gives the outcome that depends on them
room_row : (b : Bool) (written : Outcome) (lent : List ℕ) → let r = refusal (whole 40 b ∷ []) in
    cond b written (left (refused_answer (refused 40 0)) lent) ≡ cond (eqb r.code 0) written (left (refused_answer r) lent)
unfolding refusal
room_row true written lent = refl
room_row false written lent = refl

-- the one outcome keeps the promise
kept_promise : {f : Form} {k : Contents} {lent : List ℕ} {o : Outcome} → o ≡ outcome f k lent → Promise f k lent o
kept_promise h = rw h (record { answer = refl; sheet = refl })

module _ (f : Form) (k : Contents) {r : Refusal} (g : r ≡ contents_refusal f k) where
  -- contents that are refused leave the lent bytes as they are
  pub promise_refused : {lent : List ℕ} {a : Written} → (r.code ≡ 0 → ⊥) → a ≡ refused_answer r → Promise f k lent (left a lent)
  unfolding outcome write_refusal plan_refusal
  promise_refused {lent} n e =
      let all : write_refusal f k (length lent) ≡ r = sym (g ∙ front-given (contents_table f k) _ (rw g at n)) in
      kept_promise (rw (all, ne_eqb r.code 0 n, e))

  module _ (whole_in : carried f k ≡ k) (z : r.code ≡ 0) where
    -- contents that are not refused can be handed over
    pub contents_handed : HeadLimits f (head_of k) × Handed f k
    contents_handed = let v = valid_contents f k (rw g at z) in (limits_valid f k whole_in v, handed f k (counted_valid k v))

    -- and what is put down of them is the outcome
    pub promise_put : {lent : List ℕ} {o : Outcome} → Puts f (head_of k) (handed_numbers f k) lent o → Promise f k lent o
    unfolding outcome write_refusal plan_refusal plan_table numbers sheet_of
    promise_put {lent} h =
        let enough = leb (sheet_bytes f k) (length lent) in
        kept_promise (h ∙ room_row enough _ lent ∙ rw (front_passed (contents_table f k) (whole 40 enough ∷ []) (passed (contents_table f k) tt (rw g at z))))
