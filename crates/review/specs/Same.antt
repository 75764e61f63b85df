-- Two lists of sheets that come to the same, place by place, have the same figures.
-- Assumes nothing.
use Rattle.std.specs.Prelude.{ℕ, suc, ◌≡◌, refl, Bool, not, cond, ◌&&◌, Option, None, List}
use Rattle.std.proofs.Common.{ap, ◌∙◌}
use Rattle.std.proofs.Math.Dec.{eqb}
use Rattle.lists.specs.Sums.{bit, sum}
use Rattle.lists.specs.ListLaws.{table_same}
use Rattle.lists.specs.Pairs.{Pairs, none, one}
use Rattle.meaning.specs.Plan.{most_kind}
use Rattle.judging.specs.Judgement.{Judgement, judgement}
use Rattle.review.specs.declared.Extreme.{Extreme}
use Rattle.review.specs.Review.{failing, failed_in, better, extreme_from, smaller, larger, review_of}
use Rattle.review.specs.Stream.{stream_of, reviewed, printed_of}

-- two sheets come to the same: refusal, constraints, verdicts and total
abbrev pub SameJudged : List ℕ → List ℕ → Type 0
SameJudged s t = judgement s ≡ judgement t

-- a sum of what the sheets come to is the same
same_sum : (f : Judgement → ℕ) {ss ts : List (List ℕ)} → Pairs SameJudged ss ts → sum ss (λ s. f (judgement s)) ≡ sum ts (λ t. f (judgement t))
same_sum f none = refl
same_sum f (one e p) = rw (e, same_sum f p)

-- and so are the smallest and the largest total, with their places
same-extreme : (before : ℕ → ℕ → Bool) (known : Option Extreme) (place : ℕ) {ss ts : List (List ℕ)} → Pairs SameJudged ss ts
    → extreme_from before known place ss ≡ extreme_from before known place ts
unfolding extreme_from
same-extreme before known place none = refl
same-extreme before known place (one {x} {y} {xs} {ys} e p) =
    let after : Judgement → Option Extreme = λ j. cond (eqb j.refusal.code 0) (better before known j.total place) known in
    same-extreme before (after (judgement x)) (suc place) p ∙ ap (λ j. extreme_from before (after j) (suc place) ys) e

module _ {ss ts : List (List ℕ)} (p : Pairs SameJudged ss ts) where
  -- as many constraints of each kind failed
  same_failed : (kind : ℕ) → sum ss (failed_in kind) ≡ sum ts (failed_in kind)
  same_failed kind = same_sum (λ j. failing kind j.constraints j.verdicts) p

  -- so all figures are the same
  pub same_figures : review_of ss ≡ review_of ts
  unfolding review_of
  same_figures =
      rw (
        same_sum (λ j. bit (eqb j.refusal.code 0)) p,
        same_sum (λ j. bit (not (eqb j.refusal.code 0))) p,
        same_sum (λ j. bit (eqb j.refusal.code 0 && eqb j.total 0)) p,
        table_same most_kind (λ kind. sum ss (failed_in kind)) (λ kind. sum ts (failed_in kind)) (λ kind i. same_failed kind),
        same-extreme smaller None 1 p,
        same-extreme larger None 1 p,
      )

-- and where reading ends at the same place, so is what is printed
pub same-printed : (input other : List ℕ) → Pairs SameJudged (stream_of input).sheets (stream_of other).sheets → (stream_of input).torn ≡ (stream_of other).torn
    → printed_of input ≡ printed_of other
unfolding reviewed
same-printed input other p e = rw (same_figures p, e)
