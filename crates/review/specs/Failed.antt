-- Document 02, C-22: the constraints that failed, by kind: what they are, that none is left out, and that a total of zero means that there is none.
-- Assumes nothing.
use Prim.Native.Nat.{ℕ, ◌+◌, ◌-◌, ◌*◌, ◌/◌, ◌<◌}
use Rattle.std.proofs.Math.Nat.{zero-add}
use Rattle.std.proofs.Common.{arith, ◌∙◌, eqb-true, eq-eqb, ne_eqb}
use Rattle.std.specs.Prelude.{◌≡◌, refl, Bool, true, false, ◌&&◌, List, ◌↔◌, get_or}
use Rattle.std.proofs.Math.Path.{sym, ap}
use Rattle.std.proofs.Math.Bool.{not}
use Rattle.std.proofs.Math.Logic.Iff
use Rattle.std.proofs.lemmas.Bool.{eqb-false}
use Rattle.std.proofs.Math.Dec.{eqb}
use Rattle.std.proofs.Math.ListN.{length}
use Rattle.lists.specs.Sums.{In, at, from, up_to, list_of, bit, sum, count, Every}
use Rattle.lists.specs.SumLaws.{sum_ext, sum-all, sum_one, sum_same, sum-swap, sum-map, every_from, every_all, every_turn, at_table, length_table, zero-each}
use Rattle.lists.specs.ListLaws.{list_of_every, length-list_of, get_or-list_of}
use Rattle.lists.specs.Tests.{by_eqb, eqb_both}
use Rattle.lists.specs.Counts.{count_split}
use Rattle.meaning.specs.Plan.{Constraint, Plan, constraint_length, constraint_at, constraints_of, most_kind, ConstraintLimits}
use Rattle.meaning.specs.Kinds.{holds, total}
use Rattle.meaning.specs.Moves.{verdict_length, verdicts_of}
use Rattle.meaning.proofs.Holds.{failed_zero, total-zero, verdict_says}
use Rattle.form.specs.Form.{form_in, contents_by}
use Rattle.form.proofs.ContentsLaws.{valid_contents}
use Rattle.form.specs.Refusals.{refusal_by}
use Rattle.form.proofs.AcceptedLaws.{accepted}
use Rattle.judging.specs.Judgement.{Judgement, plan_held, judged, refused_for, judgement}
use Rattle.judging.specs.JudgementLaws.{judgement-code}
use Rattle.judgement.specs.Promise.{code, total_of, constraint_count}
use Rattle.judgement.specs.Promise as judgement
use Rattle.judgement.specs.Places.{holds-said}
use Rattle.review.specs.Review.{sound, zero_total, fails, failing, failed_in, review_of}
use Rattle.review.specs.Next.{sound-judged, refused_bare}

-- ---- what is counted

-- there is a number for each kind
pub failed_length : (sheets : List (List ℕ)) → length (review_of sheets).failed ≡ most_kind
unfolding review_of
failed_length sheets = length_table most_kind (λ kind. sum sheets (failed_in kind))

-- and it is that of the constraints of this kind that failed in all sheets
pub failed_at : (sheets : List (List ℕ)) (kind : ℕ) → In most_kind kind → at (review_of sheets).failed kind ≡ sum sheets (failed_in kind)
unfolding review_of
failed_at sheets = at_table most_kind (λ kind. sum sheets (failed_in kind))

-- constraint k, from 0, of a sheet does not hold
abbrev pub broken : List ℕ → ℕ → Bool
broken sheet k = eqb (get_or (judgement sheet).verdicts (verdict_length * k) 0) 0

-- how many constraints of a sheet do not hold, of whatever kind
abbrev pub broken_in : List ℕ → ℕ
broken_in sheet = count (from 0 (constraint_count sheet)) (broken sheet)

-- a refused one has none
pub none-broken : (sheet : List ℕ) → (code sheet ≡ 0 → ⊥) → broken_in sheet ≡ 0
unfolding refused_for
none-broken sheet n = rw (refused_bare sheet n)

-- ---- none is left out

-- each constraint of a judgement is of a kind that is counted
abbrev KindsKnown : Judgement → Type 0
KindsKnown j = (k : ℕ) → k < length j.constraints / constraint_length → In most_kind (constraint_at j.constraints k).kind

module _ (sheet : List ℕ) where
  -- the constraints that a sheet holds are within the limits, where it is not refused
  limits-held : (refusal_by sheet).code ≡ 0 → Every ConstraintLimits (constraints_of (contents_by sheet).constraints)
  limits-held z = let f = form_in sheet in (valid_contents f (contents_by sheet) (accepted f sheet z).valid).limits.constraint

  -- so each is of a kind that is counted; a refused sheet has none
  kinds_known : KindsKnown (judgement sheet)
  unfolding judgement judged refused_for constraints_of
  kinds_known =
      let cs = (contents_by sheet).constraints in
      by_eqb (refusal_by sheet).code 0 KindsKnown (judged sheet) (refused_for (refusal_by sheet))
      (λ e k h. (list_of_every ConstraintLimits (length cs / constraint_length) (constraint_at cs) (limits-held e) k h).kind)
      (λ ne k h. absurd (omega arith))

  -- one that does not hold counts once, for its own kind
  one_kind : (k : ℕ) → k < constraint_count sheet → let j = judgement sheet in
      sum (up_to most_kind) (λ kind. bit (fails kind j.constraints j.verdicts k)) ≡ bit (broken sheet k)
  one_kind k h =
      let own = (constraint_at (judgement sheet).constraints k).kind in
      sum_one most_kind own (λ kind. bit (eqb own kind && broken sheet k)) (kinds_known k h) (λ u i ne. rw (ne_eqb own u (λ e. ne (sym e))))
      ∙ rw (eq-eqb own own refl)

  -- so all kinds together are all that do not hold
  pub failed_sheet : sum (up_to most_kind) (λ kind. failed_in kind sheet) ≡ broken_in sheet
  unfolding failing
  failed_sheet =
      let j = judgement sheet in
      sum-swap (up_to most_kind) (from 0 (constraint_count sheet)) (λ kind k. bit (fails kind j.constraints j.verdicts k))
      ∙ sum_ext (from 0 (constraint_count sheet)) _ _ (every_from _ 0 (constraint_count sheet) (λ k lo hi. one_kind k (rw zero-add at hi)))

-- the numbers of all kinds add up to the number of all constraints of all sheets that do not hold
pub failed_all : (sheets : List (List ℕ)) → sum (up_to most_kind) (at (review_of sheets).failed) ≡ sum sheets broken_in
failed_all sheets =
    sum_same most_kind (at (review_of sheets).failed) (λ kind. sum sheets (failed_in kind)) (failed_at sheets)
    ∙ sum-swap (up_to most_kind) sheets failed_in
    ∙ sum-all sheets _ broken_in failed_sheet

-- ---- what it means that one failed

-- a constraint counts as failed for a kind exactly where it is of this kind and 0 is answered for holds at its place
pub failed_holds : (sheet : List ℕ) (kind k : ℕ) → k < constraint_count sheet → let j = judgement sheet in
    fails kind j.constraints j.verdicts k ≡ true ↔ (((constraint_at j.constraints k).kind ≡ kind) × (judgement.holds sheet (k + 1) ≡ 0))
failed_holds sheet kind k h =
    let j = judgement sheet in
    let i : In (constraint_count sheet) (k + 1) = record { low = omega arith; high = omega arith } in
    let e : k + 1 - 1 ≡ k = omega arith in
    rw (holds-said sheet (k + 1) i, e) (eqb_both (constraint_at j.constraints k).kind kind (get_or j.verdicts (verdict_length * k) 0) 0)

module _ (P : Plan) (col : List ℕ) where
  -- so counting by verdicts is counting what does not hold, of the constraints that pass a test
  count-verdicts : (test : Constraint → Bool) (cs : List ℕ) →
      count (from 0 (length cs / constraint_length)) (λ k. test (constraint_at cs k) && eqb (get_or (verdicts_of P col (constraints_of cs)) (verdict_length * k) 0) 0)
      ≡ count (constraints_of cs) (λ c. test c && not (holds P col c))
  unfolding constraints_of
  count-verdicts test cs =
      let n = length cs / constraint_length in
      let f = constraint_at cs in
      sum_ext (from 0 n) _ _ (every_from _ 0 n (λ k lo hi. ap (λ b. bit (test (f k) && b)) (said n f k (rw zero-add at hi))))
      ∙ sym (sum-map f (from 0 n) (λ c. bit (test c && not (holds P col c))))
    where
      said : (n : ℕ) (f : ℕ → Constraint) (k : ℕ) → k < n → eqb (get_or (verdicts_of P col (list_of n f)) (verdict_length * k) 0) 0 ≡ not (holds P col (f k))
      said n f k h = verdict_says P col (list_of n f) (f 0) k (rw (length-list_of n f) h) ∙ ap (λ c. not (holds P col c)) (get_or-list_of n f (f 0) k h)

-- of a sheet that is read soundly
module _ (sheet : List ℕ) (z : code sheet ≡ 0) where
  -- its plan
  abbrev P : Plan
  P = plan_held (contents_by sheet)

  -- its colouring
  abbrev col : List ℕ
  col = (contents_by sheet).colouring

  -- those that failed of a kind are its constraints of this kind that do not hold of its colouring
  pub failed_meant : (kind : ℕ) → failed_in kind sheet ≡ count P.constraints (λ c. eqb c.kind kind && not (holds P col c))
  unfolding failing judged
  failed_meant kind = rw (sound-judged sheet z) (count-verdicts P col (λ c. eqb c.kind kind) (contents_by sheet).constraints)

  -- and those of any kind are its constraints that do not
  pub broken-meant : broken_in sheet ≡ count P.constraints (λ c. not (holds P col c))
  unfolding judged
  broken-meant = rw (sound-judged sheet z) (count-verdicts P col (λ c. true) (contents_by sheet).constraints)

  -- its total is zero exactly where all hold
  total-zero-broken : total_of sheet ≡ 0 ↔ broken_in sheet ≡ 0
  unfolding judged
  total-zero-broken =
      let hold = zero-each (λ c. holds P col c ≡ true) P.constraints (λ c. bit (not (holds P col c))) (every_all _ (λ c. failed_zero (holds P col c)) P.constraints) in
      let weigh = every_turn (λ c h. h.weight.low) P.constraints (limits-held sheet (sym (judgement-code sheet) ∙ z)) in
      let said : total_of sheet ≡ total P col = ap (λ (j : Judgement). j.total) (sound-judged sheet z) in
      rw (said, broken-meant) (Iff.trans (total-zero P col weigh) (hold.1, hold.0))

-- ---- a total of zero

-- a sheet has total zero exactly where it is read soundly and none of its constraints fails
pub zero-none_failed : (sheet : List ℕ) → zero_total sheet ≡ true ↔ ((code sheet ≡ 0) × (broken_in sheet ≡ 0))
zero-none_failed sheet =
    Iff.trans (eqb_both (code sheet) 0 (total_of sheet) 0)
    (λ p. (p.0, (total-zero-broken sheet p.0).0 p.1), λ p. (p.0, (total-zero-broken sheet p.0).1 p.1))

-- it is read soundly, and its total is not zero
abbrev above_zero : List ℕ → Bool
above_zero sheet = sound sheet && not (eqb (total_of sheet) 0)

-- in such a sheet some constraint fails, and in no other
above-broken : (sheet : List ℕ) → bit (above_zero sheet) ≡ 0 ↔ broken_in sheet ≡ 0
above-broken sheet = go (sound sheet) refl
  where
    go : (b : Bool) → sound sheet ≡ b → bit (b && not (eqb (total_of sheet) 0)) ≡ 0 ↔ broken_in sheet ≡ 0
    go true e =
        Iff.trans (failed_zero (eqb (total_of sheet) 0))
        (Iff.trans (eqb-true (total_of sheet) 0, eq-eqb (total_of sheet) 0) (total-zero-broken sheet (eqb-true (code sheet) 0 e)))
    go false e = (λ y. none-broken sheet (eqb-false (code sheet) 0 e), λ y. refl)

-- every sheet that is read soundly has total zero exactly where all numbers of the kinds are 0
pub all-zero : (sheets : List (List ℕ)) → (review_of sheets).zero ≡ (review_of sheets).sound ↔ sum (up_to most_kind) (at (review_of sheets).failed) ≡ 0
unfolding review_of
all-zero sheets =
    let each = zero-each (λ s. broken_in s ≡ 0) sheets (λ s. bit (above_zero s)) (every_all _ above-broken sheets) in
    let all = zero-each (λ s. broken_in s ≡ 0) sheets broken_in (every_all _ (λ s. (λ e. e, λ e. e)) sheets) in
    rw (failed_all sheets) (Iff.trans none_above (Iff.trans each (all.1, all.0)))
  where
    split : count sheets zero_total + count sheets above_zero ≡ count sheets sound
    split = count_split sound (λ s. eqb (total_of s) 0) sheets

    none_above : count sheets zero_total ≡ count sheets sound ↔ count sheets above_zero ≡ 0
    none_above = (λ e. omega (arith, e, split), λ e. omega (arith, e, split))
