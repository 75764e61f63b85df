-- Wrong answers that the promises of the calls on figures rule out, where the sheets are sheet A with faces to the outside and a flight, two blocks of zeros, and sheet A twice.
-- Assumes nothing.
use Rattle.std.specs.Prelude.{ℕ, ◌+◌, ◌≡◌, [], ◌∷◌, length}
use Rattle.std.proofs.Common.{arith, sym, ◌∙◌}
use Rattle.std.proofs.Math.Path.{ap}
use Rattle.judging.specs.Judgement.{Judgement, refused_for}
use Rattle.review.specs.declared.Announced.{Announced}
use Rattle.review.specs.declared.Announced.TheVariants.{Nothing, Blocks}
use Rattle.review.specs.declared.Review.{Review}
use Rattle.review.specs.Review.{shown, extreme_from, review_of}
use Rattle.review.specs.Next.{with_refused, next, next-refused, review_next}
use Rattle.review.specs.Stream.{announced_by, printed_of}
use Rattle.review.specs.StreamLaws.{nothing_none, blocks_counted}
use Rattle.review.specs.Example.{zeros, zeros-refused, first_four, worked, worked_figures, worked_input, no_input, worked-printed}
use Rattle.ruled_out.specs.Bytes.{bytes_a}

-- ---- `none`

module _ {r : Review} (p : r ≡ review_of []) where
  -- over no sheet no place has the smallest total
  none_has_place : (shown r.smallest).place ≡ 1 → ⊥
  unfolding extreme_from review_of
  none_has_place e = omega (arith, e, ap (λ (r : Review). (shown r.smallest).place) p)

  -- and no total is zero
  none_has_total : r.zero ≡ 1 → ⊥
  unfolding review_of
  none_has_total e = omega (arith, e, ap (λ (r : Review). r.zero) p)

-- ---- `with_sheet`

module _ (r q : Review) (p : q ≡ next r 2 zeros) where
  -- a sheet that is refused leaves all but one count
  all_but_one : q ≡ with_refused r
  unfolding refused_for
  all_but_one = p ∙ next-refused r 2 zeros (λ z. omega (arith, z, ap (λ (j : Judgement). j.refusal.code) zeros-refused))

  -- so it does not count as a total of zero
  refused_as_zero : q.zero ≡ r.zero + 1 → ⊥
  unfolding with_refused
  refused_as_zero e = omega (arith, e, ap (λ (r : Review). r.zero) all_but_one)

  -- nor does it take the smallest total
  refused_as_smallest : (shown r.smallest).place ≡ 1 → (shown q.smallest).place ≡ 2 → ⊥
  unfolding with_refused
  refused_as_smallest f e = omega (arith, e, f, ap (λ (r : Review). (shown r.smallest).place) all_but_one)

module _ (r q : Review) (f : r ≡ review_of first_four) (p : q ≡ next r 5 bytes_a) where
  -- with sheet A again they are the figures over all five
  five : q ≡ review_of worked
  five = p ∙ ap (λ (r : Review). next r 5 bytes_a) f ∙ sym (review_next first_four bytes_a)

  -- of two that have the smallest total it is not the later
  smallest_later : (shown q.smallest).place ≡ 5 → ⊥
  smallest_later e = omega (arith, e, ap (λ (r : Review). (shown r.smallest).place) (five ∙ worked_figures))

  -- and a place counts the refused sheets
  place_among_sound : (shown q.smallest).place ≡ 2 → ⊥
  place_among_sound e = omega (arith, e, ap (λ (r : Review). (shown r.smallest).place) (five ∙ worked_figures))

-- ---- `by`

module _ {a : Announced} where
  -- the lower byte comes first
  said_higher_first : a ≡ announced_by (0 ∷ 5 ∷ []) → a ≡ Blocks 5 → ⊥
  said_higher_first p e = omega (arith, (blocks_counted (0 ∷ 5 ∷ []) 5 (omega arith) (sym p ∙ e)).said)

  -- 75 blocks are too many
  said_too_many : a ≡ announced_by (75 ∷ 0 ∷ []) → a ≡ Blocks 75 → ⊥
  said_too_many p e = omega (arith, (blocks_counted (75 ∷ 0 ∷ []) 75 (omega arith) (sym p ∙ e)).few)

  -- an input that ends inside a count does not end well
  ended_inside : (byte : ℕ) → a ≡ announced_by (byte ∷ []) → a ≡ Nothing → ⊥
  ended_inside byte p e = omega (arith, ap length (nothing_none (byte ∷ []) (sym p ∙ e)))

-- ---- `put_reviewed`

module _ {bytes : ℕ} where
  -- the line of a refusal is not left out
  refusal-left_out : bytes ≡ length (printed_of worked_input) → bytes ≡ 26 → ⊥
  refusal-left_out p e = let n : length (printed_of worked_input) ≡ 39 = ap length worked-printed in omega (arith, p, e, n)

  -- nor put where there is none
  refusal_of_none : bytes ≡ length (printed_of []) → bytes ≡ 37 → ⊥
  refusal_of_none p e = let n : length (printed_of []) ≡ 24 = ap length no_input in omega (arith, p, e, n)
