-- The figures after one more sheet, from those before it.
-- Assumes nothing.
use Rattle.std.specs.Prelude.{ℕ, suc, ◌+◌, ◌≡◌, Bool, List, [], ◌∷◌, ◌++◌, Option, None, map, eqb, length}
use Rattle.std.proofs.Common.{arith, sym, ◌∙◌, ne_eqb}
use Rattle.std.proofs.Math.Path.{refl, ap}
use Rattle.std.proofs.Math.Bool.{true, false, not, cond}
use Rattle.std.proofs.lemmas.Bool.{eqb-false}
use Rattle.lists.specs.Sums.{at, up_to, bit, sum}
use Rattle.lists.specs.SumLaws.{at_table}
use Rattle.lists.specs.ListLaws.{table_same}
use Rattle.lists.specs.Last.{sum_end, count_yes, count_no}
use Rattle.meaning.specs.Plan.{most_kind}
use Rattle.form.specs.Refusals.{refusal_by}
use Rattle.judging.specs.Judgement.{judged, refused_for, judgement}
use Rattle.judging.specs.JudgementLaws.{judgement-refused, judgement-judged, judgement-code}
use Rattle.judgement.specs.Promise.{code, total_of}
use Rattle.review.specs.declared.Extreme.{Extreme}
use Rattle.review.specs.declared.Review.{Review}
use Rattle.review.specs.Review.{sound, zero_total, failing, failed_in, better, extreme_from, extreme_of, smaller, larger, review_of}

-- what failed before, and what fails in one more sheet, for each kind
unfoldable pub with_failed : List ℕ → List ℕ → List ℕ → List ℕ
with_failed failed constraints verdicts = map (λ kind. at failed kind + failing kind constraints verdicts) (up_to most_kind)

-- a refused sheet counts only as refused
unfoldable pub with_refused : Review → Review
with_refused r =
    record {
      sound = r.sound;
      refused = r.refused + 1;
      zero = r.zero;
      failed = r.failed;
      smallest = r.smallest;
      largest = r.largest;
    }

-- one that is read soundly brings what failed in it, and its total at its place
unfoldable pub with_sound : Review → List ℕ → ℕ → ℕ → Review
with_sound r failed total place =
    record {
      sound = r.sound + 1;
      refused = r.refused;
      zero = r.zero + bit (eqb total 0);
      failed = failed;
      smallest = better smaller r.smallest total place;
      largest = better larger r.largest total place;
    }

-- what the sheet at a place makes of the figures over those before it
unfoldable pub next : Review → ℕ → List ℕ → Review
next r place sheet =
    let j = judgement sheet in
    cond (sound sheet) (with_sound r (with_failed r.failed j.constraints j.verdicts) j.total place) (with_refused r)

-- the figures are those over all sheets before a place
pub record Taken (place : ℕ) (r : Review) : Type 0 where
  pub sheets : List (List ℕ)
  pub many : suc (length sheets) ≡ place
  pub figures : r ≡ review_of sheets

-- ---- a sheet that is read soundly, and one that is refused

-- a sheet that is read soundly is judged by its contents
pub sound-judged : (s : List ℕ) → code s ≡ 0 → judgement s ≡ judged s
sound-judged s z = judgement-judged s (sym (judgement-code s) ∙ z)

-- one that is refused has nothing but its refusal
pub refused_bare : (s : List ℕ) → (code s ≡ 0 → ⊥) → judgement s ≡ refused_for (refusal_by s)
refused_bare s n = judgement-refused s (λ z. n (judgement-code s ∙ z))

-- so no constraint fails in it
pub refused-none_failed : (s : List ℕ) → (code s ≡ 0 → ⊥) → (kind : ℕ) → failed_in kind s ≡ 0
unfolding refused_for failing
refused-none_failed s n kind = rw (refused_bare s n)

-- ---- one more sheet

-- the first of some sheets and one more, from any place on
extreme_end : (before : ℕ → ℕ → Bool) (known : Option Extreme) (place : ℕ) (ss : List (List ℕ)) (s : List ℕ) → let x = extreme_from before known place ss in
    extreme_from before known place (ss ++ (s ∷ [])) ≡ cond (sound s) (better before x (total_of s) (place + length ss)) x
unfolding extreme_from
extreme_end before known place [] s = let e : place + 0 ≡ place = omega arith in rw e
extreme_end before known place (x ∷ ss) s =
    let e : suc place + length ss ≡ place + suc (length ss) = omega arith in
    extreme_end before (cond (sound x) (better before known (total_of x) place) known) (suc place) ss s ∙ rw e

-- and from place 1 on
pub extreme-next : (before : ℕ → ℕ → Bool) (ss : List (List ℕ)) (s : List ℕ) → let x = extreme_of before ss in
    extreme_of before (ss ++ (s ∷ [])) ≡ cond (sound s) (better before x (total_of s) (suc (length ss))) x
extreme-next before ss s = let e : suc (length ss) ≡ 1 + length ss = omega arith in rw e (extreme_end before None 1 ss s)

-- what fails of a kind in some sheets
abbrev failed_over : List (List ℕ) → ℕ → ℕ
failed_over ss kind = sum ss (failed_in kind)

module _ (ss : List (List ℕ)) (s : List ℕ) where
  -- with one that is read soundly
  end_sound : sound s ≡ true → let r = review_of ss in let j = judgement s in
      review_of (ss ++ (s ∷ [])) ≡ with_sound r (with_failed r.failed j.constraints j.verdicts) j.total (suc (length ss))
  unfolding review_of with_sound with_failed
  end_sound e =
      rw (
        count_yes sound ss s e,
        count_no (λ x. not (sound x)) ss s (ap not e),
        sum_end (λ x. bit (zero_total x)) ss s,
        table_same most_kind (failed_over (ss ++ (s ∷ []))) (λ kind. at (map (failed_over ss) (up_to most_kind)) kind + failed_in kind s)
            (λ kind i. sum_end (failed_in kind) ss s ∙ ap (λ n. n + failed_in kind s) (sym (at_table most_kind (failed_over ss) kind i))),
        extreme-next smaller ss s,
        extreme-next larger ss s,
        e,
      )

  -- with one that is refused
  end_refused : sound s ≡ false → review_of (ss ++ (s ∷ [])) ≡ with_refused (review_of ss)
  unfolding review_of with_refused
  end_refused e =
      rw (
        count_no sound ss s e,
        count_yes (λ x. not (sound x)) ss s (ap not e),
        count_no zero_total ss s (rw e),
        table_same most_kind (failed_over (ss ++ (s ∷ []))) (failed_over ss)
            (λ kind i. omega (arith, sum_end (failed_in kind) ss s, refused-none_failed s (eqb-false (code s) 0 e) kind)),
        extreme-next smaller ss s,
        extreme-next larger ss s,
        e,
      )

  -- the figures over sheets and one more
  pub review_next : review_of (ss ++ (s ∷ [])) ≡ next (review_of ss) (suc (length ss)) s
  unfolding next
  review_next = go (sound s) refl
    where
      go : (b : Bool) → sound s ≡ b → let r = review_of ss in let j = judgement s in
          review_of (ss ++ (s ∷ [])) ≡ cond b (with_sound r (with_failed r.failed j.constraints j.verdicts) j.total (suc (length ss))) (with_refused r)
      go true e = end_sound e
      go false e = end_refused e

-- a refused sheet counts only as refused
pub next-refused : (r : Review) (place : ℕ) (s : List ℕ) → (code s ≡ 0 → ⊥) → next r place s ≡ with_refused r
unfolding next
next-refused r place s n = rw (ne_eqb (code s) 0 n)
