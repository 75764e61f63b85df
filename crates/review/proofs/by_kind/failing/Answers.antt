-- Of the constraints, each beside its verdict, those are counted that fail.
use Rattle.std.specs.Prelude.{ℕ, zero, suc, ◌+◌, ◌*◌, ◌/◌, ◌≤◌, ◌≡◌, refl, Bool, true, false, cond, ◌&&◌, eqb, List, [], ◌∷◌, length, take, drop, get_or}
use Rattle.std.specs.List.{filter, zip}
use Rattle.std.specs.Simd.{first_chunks}
use Rattle.std.proofs.Common.{rules, tests, arith, sym, ap, ap₂, ◌∙◌, add-zero, zero-add}
use Rattle.std.proofs.lemmas.List.{get_or-drop}
use Rattle.std.proofs.lemmas.Iterator.{YieldsList-from_slice, YieldsList-from_zip}
use Rattle.std.proofs.lemmas.Iterator.Consumers.{YieldsList-from_filter, count_from_yields_List}
use Rattle.lists.specs.Sums.{bit, from, count}
use Rattle.meaning.specs.Plan.{constraint_length}
use Rattle.meaning.specs.Moves.{verdict_length}
use Rattle.review.specs.Review as review
use Rattle.review.proofs.by_kind.failing.Goals as goal

-- what is tested of a constraint and its verdict
abbrev test : ℕ → List ℕ × List ℕ → Bool
test kind p = eqb (get_or p.0 0 0) kind && eqb (get_or p.1 0 0) 0

first_of_four : (xs : List ℕ) → get_or (take constraint_length xs) 0 0 ≡ get_or xs 0 0
first_of_four [] = refl
first_of_four (x ∷ xs) = refl

first_of_two : (xs : List ℕ) → get_or (take verdict_length xs) 0 0 ≡ get_or xs 0 0
first_of_two [] = refl
first_of_two (x ∷ xs) = refl

one_more : {X : Type 0} (b a : Bool) (x : X) (xs : List X) (n : ℕ) → a ≡ b → length xs ≡ n → length (cond b (x ∷ xs) xs) ≡ bit a + n
one_more true a x xs n e l = rw e (omega (arith, l))
one_more false a x xs n e l = rw e (omega (arith, l))

-- as many pass as there are indices, from j on, that do
counted : (kind n m : ℕ) (cs vs : List ℕ) (j : ℕ) (passes : ℕ → Bool) → n ≤ m → ((k : ℕ) → passes (j + k) ≡ (eqb (get_or cs (constraint_length * k) 0) kind && eqb (get_or vs (verdict_length * k) 0) 0))
    → length (filter (test kind) (zip (first_chunks constraint_length n cs) (first_chunks verdict_length m vs))) ≡ count (from j n) passes
counted kind zero m cs vs j passes l h = refl
counted kind (suc n) zero cs vs j passes l h = absurd (omega arith)
counted kind (suc n) (suc m) cs vs j passes l h =
    let here = ap passes (sym (add-zero j)) ∙ h 0 ∙ sym (ap₂ (λ x y. eqb x kind && eqb y 0) (first_of_four cs) (first_of_two vs)) in
    let shift : (k : ℕ) → suc j + k ≡ j + suc k = λ k. omega arith in
    let fours : (k : ℕ) → constraint_length + constraint_length * k ≡ constraint_length * suc k = λ k. omega arith in
    let twos : (k : ℕ) → verdict_length + verdict_length * k ≡ verdict_length * suc k = λ k. omega arith in
    one_more _ _ _ _ _ here
    (counted kind n m (drop constraint_length cs) (drop verdict_length vs) (suc j) passes (omega arith) (λ k.
    ap passes (shift k) ∙ h (suc k)
    ∙ sym (ap₂ (λ x y. eqb x kind && eqb y 0) (get_or-drop constraint_length cs (constraint_length * k) 0 ∙ ap (λ i. get_or cs i 0) (fours k)) (get_or-drop verdict_length vs (verdict_length * k) 0 ∙ ap (λ i. get_or vs i 0) (twos k)))))

pub returns : goal.returns
unfolding review.failing
returns c =
    let kind = c.args.kind in
    let cs = c.args.constraints.now in
    let vs = c.args.verdicts.now in
    let n = length cs / constraint_length in
    let m = length vs / verdict_length in
    count_from_yields_List c.filter.result _ c.count.ensures.ran
    (YieldsList-from_filter _ (test kind) (YieldsList-from_zip (YieldsList-from_slice (first_chunks constraint_length n cs) (cc)) (YieldsList-from_slice (first_chunks verdict_length m vs) (cc))) c.filter.ensures.closure (λ x b q k. search (rules, tests)))
    ∙ counted kind n m cs vs 0 (review.fails kind cs vs) (omega (arith, c.requires)) (λ k. rw (zero-add k) refl)
