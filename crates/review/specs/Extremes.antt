-- Document 02, C-22: what the smallest and the largest total are, and that their places are the first.
-- Assumes nothing.
use Rattle.std.specs.Prelude.{ℕ, suc, ◌-◌, ◌≤◌, ◌<◌, ◌≡◌, Bool, cond, List, [], ◌∷◌, ◌++◌, ◌⊎◌, ◌↔◌, Option, None, Some, length, get_or}
use Rattle.std.proofs.Math.Decide.{ℕ_discrete, dec_lt}
use Rattle.std.proofs.Common.{arith, sym, ap, ◌∙◌, inl, inr, eqb-true, eq-eqb, ltb-true, ltb-false, length-append}
use Rattle.std.proofs.Math.Path.{refl}
use Rattle.std.proofs.Math.Bool.{true, false}
use Rattle.std.proofs.lemmas.Bool.{eqb-false}
use Rattle.std.proofs.Math.ListN.{get_or-append}
use Rattle.std.proofs.lemmas.List.{get_or_at}
use Rattle.lists.specs.Sums.{In, count}
use Rattle.lists.specs.Last.{by_last, count_no}
use Rattle.lists.specs.Counts.{counts_some}
use Rattle.judgement.specs.Promise.{code, total_of}
use Rattle.review.specs.declared.Extreme.{Extreme}
use Rattle.review.specs.Review.{sound, extreme, shown, better, extreme_from, extreme_of, smaller, larger, review_of}
use Rattle.review.specs.Next.{extreme-next}

-- ---- what is meant

-- the sheet at a place: places are from 1
abbrev pub sheet_at : List (List ℕ) → ℕ → List ℕ
sheet_at sheets place = get_or sheets (place - 1) []

-- the total of the sheet there
abbrev pub total_at : List (List ℕ) → ℕ → ℕ
total_at sheets place = total_of (sheet_at sheets place)

-- a sheet stands there, and is read soundly
pub record SoundAt (sheets : List (List ℕ)) (place : ℕ) : Type 0 where
  pub inside : In (length sheets) place
  pub read : code (sheet_at sheets place) ≡ 0

-- of the sheets that are read soundly one at a place: its total is as good as that of each, and ahead of that of each earlier one
pub record FirstOf (asGood : ℕ → ℕ → Type 0) (ahead : ℕ → ℕ → Type 0) (sheets : List (List ℕ)) (x : Extreme) : Type 0 where
  pub there : SoundAt sheets x.place
  pub total : total_at sheets x.place ≡ x.total
  pub best : (u : ℕ) → SoundAt sheets u → asGood x.total (total_at sheets u)
  pub first : (u : ℕ) → SoundAt sheets u → u < x.place → ahead x.total (total_at sheets u)

-- the smallest total, at its first place
abbrev pub Smallest : List (List ℕ) → Extreme → Type 0
Smallest = FirstOf (λ x y. x ≤ y) (λ x y. x < y)

-- the largest
abbrev pub Largest : List (List ℕ) → Extreme → Type 0
Largest = FirstOf (λ x y. y ≤ x) (λ x y. y < x)

-- ---- one more sheet

-- where a sheet is read soundly, some are
sound_some : {sheets : List (List ℕ)} {u : ℕ} → SoundAt sheets u → 0 < count sheets sound
sound_some {sheets} {u} s = counts_some sound sheets (u - 1) [] (omega (arith, s.inside.low, s.inside.high)) (eq-eqb _ 0 s.read)

module _ (ss : List (List ℕ)) (s : List ℕ) where
  -- a sheet before the last
  before_last : {u : ℕ} → In (length ss) u → sheet_at (ss ++ (s ∷ [])) u ≡ sheet_at ss u
  before_last {u} i = get_or-append ss (s ∷ []) [] (u - 1) (omega (arith, i.low, i.high))

  -- the last
  the_last : {u : ℕ} → u ≡ suc (length ss) → sheet_at (ss ++ (s ∷ [])) u ≡ s
  the_last {u} e = get_or_at ss s [] [] (u - 1) (omega arith)

  -- a sheet that is read soundly stays so
  sound_more : {u : ℕ} → SoundAt ss u → SoundAt (ss ++ (s ∷ [])) u
  sound_more {u} h =
      record { inside = record { low = h.inside.low; high = rw (length-append ss (s ∷ [])) (omega (arith, h.inside.high)) }; read = rw (before_last h.inside) h.read }

  -- the last is, where it is
  sound-last : code s ≡ 0 → SoundAt (ss ++ (s ∷ [])) (suc (length ss))
  sound-last e = record { inside = record { low = omega arith; high = rw (length-append ss (s ∷ [])) (omega arith) }; read = rw (the_last refl) e }

  -- a place before the last, or that of the last
  abbrev OldOrLast : ℕ → Type 0
  OldOrLast u = SoundAt ss u ⊎ ((u ≡ suc (length ss)) × (code s ≡ 0))

  -- there is no other
  sound_cases : {u : ℕ} → SoundAt (ss ++ (s ∷ [])) u → OldOrLast u
  sound_cases {u} h = go (ℕ_discrete u (suc (length ss)))
    where
      go : Dec (u ≡ suc (length ss)) → OldOrLast u
      go (yes e) = inr (e, rw (the_last e) at h.read)
      go (no n) =
          let i : In (length ss) u = record { low = h.inside.low; high = omega (arith, length-append ss (s ∷ []), h.inside.high) } in
          inl (record { inside = i; read = rw (before_last i) at h.read })

-- ---- either of the two

-- what the proofs need of a test of two totals
record Order (test : ℕ → ℕ → Bool) (asGood : ℕ → ℕ → Type 0) (ahead : ℕ → ℕ → Type 0) : Type 0 where
  pub passed : {x y : ℕ} → test x y ≡ true → ahead x y
  pub failed : {x y : ℕ} → test x y ≡ false → asGood y x
  pub same : (x : ℕ) → asGood x x
  pub weaker : {x y : ℕ} → ahead x y → asGood x y
  pub through : {x y z : ℕ} → ahead x y → asGood y z → ahead x z
  pub apart : {x y : ℕ} → ahead x y → asGood y x → ⊥

module _ {test : ℕ → ℕ → Bool} {asGood : ℕ → ℕ → Type 0} {ahead : ℕ → ℕ → Type 0} (o : Order test asGood ahead) where
  abbrev First : List (List ℕ) → Extreme → Type 0
  First = FirstOf asGood ahead

  -- of two that are the first neither comes after the other
  first_once : {sheets : List (List ℕ)} {x y : Extreme} → First sheets x → First sheets y → x.place ≤ y.place
  first_once {sheets} {x} {y} f g = go (dec_lt y.place x.place)
    where
      go : Dec (y.place < x.place) → x.place ≤ y.place
      go (yes l) = absurd (o.apart (f.first y.place g.there l) (rw (f.total, ← g.total) at (g.best x.place f.there)))
      go (no n) = omega arith

  -- so there is no second
  first_only : {sheets : List (List ℕ)} {x y : Extreme} → First sheets x → First sheets y → x ≡ y
  first_only {sheets} {x} {y} f g =
      let e : x.place ≡ y.place = omega (arith, first_once f g, first_once g f) in
      let t : x.total ≡ y.total = sym f.total ∙ ap (total_at sheets) e ∙ g.total in
      rw (e, t)

  -- none is read soundly and there is no total, or there is the first
  abbrev Found : List (List ℕ) → Option Extreme → Type 0
  Found sheets known = ((count sheets sound ≡ 0) × (known ≡ None)) ⊎ ((x : Extreme) × (known ≡ Some x) × First sheets x)

  module _ (ss : List (List ℕ)) (s : List ℕ) where
    -- one more that is read soundly and goes before all the others is the first
    first_new : code s ≡ 0 → ((u : ℕ) → SoundAt ss u → ahead (total_of s) (total_at ss u)) → First (ss ++ (s ∷ [])) (extreme (total_of s) (suc (length ss)))
    first_new z above =
        record {
          there = sound-last ss s z;
          total = ap total_of (the_last ss s refl);
          best = λ u h. best u (sound_cases ss s h);
          first = λ u h l. first u l (sound_cases ss s h);
        }
      where
        best : (u : ℕ) → OldOrLast ss s u → asGood (total_of s) (total_at (ss ++ (s ∷ [])) u)
        best u (inl k) = rw (before_last ss s k.inside) (o.weaker (above u k))
        best u (inr e) = rw (the_last ss s e.0) (o.same (total_of s))

        first : (u : ℕ) → u < suc (length ss) → OldOrLast ss s u → ahead (total_of s) (total_at (ss ++ (s ∷ [])) u)
        first u l (inl k) = rw (before_last ss s k.inside) (above u k)
        first u l (inr e) = absurd (omega (arith, e.0))

    -- else it stays, and so it does where one more is refused
    first_stays : {x : Extreme} → First ss x → (code s ≡ 0 → asGood x.total (total_of s)) → First (ss ++ (s ∷ [])) x
    first_stays {x} f a =
        record {
          there = sound_more ss s f.there;
          total = ap total_of (before_last ss s f.there.inside) ∙ f.total;
          best = λ u h. best u (sound_cases ss s h);
          first = λ u h l. first u l (sound_cases ss s h);
        }
      where
        best : (u : ℕ) → OldOrLast ss s u → asGood x.total (total_at (ss ++ (s ∷ [])) u)
        best u (inl k) = rw (before_last ss s k.inside) (f.best u k)
        best u (inr e) = rw (the_last ss s e.0) (a e.1)

        first : (u : ℕ) → u < x.place → OldOrLast ss s u → ahead x.total (total_at (ss ++ (s ∷ [])) u)
        first u l (inl k) = rw (before_last ss s k.inside) (f.first u k l)
        first u l (inr e) = absurd (omega (arith, e.0, f.there.inside.high))

    -- what one more makes of what was found
    found_more : {known : Option Extreme} → Found ss known → Found (ss ++ (s ∷ [])) (cond (sound s) (better test known (total_of s) (suc (length ss))) known)
    unfolding better
    found_more {known} f = go (sound s) refl f
      where
        next : (x : Extreme) (b : Bool) → test (total_of s) x.total ≡ b → code s ≡ 0 → First ss x → Found (ss ++ (s ∷ [])) (cond b (Some (extreme (total_of s) (suc (length ss)))) (Some x))
        next x true e z k = inr (extreme (total_of s) (suc (length ss)), refl, first_new z (λ u h. o.through (o.passed e) (k.best u h)))
        next x false e z k = inr (x, refl, first_stays k (λ y. o.failed e))

        go : (b : Bool) → sound s ≡ b → Found ss known → Found (ss ++ (s ∷ [])) (cond b (better test known (total_of s) (suc (length ss))) known)
        go true e (inl n) = rw n.1 (inr (extreme (total_of s) (suc (length ss)), refl, first_new (eqb-true _ 0 e) (λ u h. absurd (omega (arith, n.0, sound_some h)))))
        go true e (inr k) = rw k.1 (next k.0 (test (total_of s) k.0.total) refl (eqb-true _ 0 e) k.2)
        go false e (inl n) = inl (count_no sound ss s e ∙ n.0, n.1)
        go false e (inr k) = inr (k.0, k.1, first_stays k.2 (λ z. absurd (eqb-false _ 0 e z)))

  -- what is found of all sheets
  found : (sheets : List (List ℕ)) → Found sheets (extreme_of test sheets)
  unfolding extreme_from
  found sheets = by_last (λ ss. Found ss (extreme_of test ss)) (inl (refl, refl)) (λ ss s f. rw (extreme-next test ss s) (found_more ss s f)) sheets

  -- where some sheet is read soundly, the first
  found_first : (sheets : List (List ℕ)) → 0 < count sheets sound → First sheets (shown (extreme_of test sheets))
  found_first sheets h = go (found sheets)
    where
      go : Found sheets (extreme_of test sheets) → First sheets (shown (extreme_of test sheets))
      go (inl n) = absurd (omega (arith, n.0))
      go (inr k) = rw k.1 k.2

  -- where none is, no total
  found_none : (sheets : List (List ℕ)) → count sheets sound ≡ 0 → extreme_of test sheets ≡ None
  found_none sheets e = go (found sheets)
    where
      go : Found sheets (extreme_of test sheets) → extreme_of test sheets ≡ None
      go (inl n) = n.1
      go (inr k) = absurd (omega (arith, e, sound_some k.2.there))

  -- and the place 0 that is shown tells that
  place_none : (sheets : List (List ℕ)) → (shown (extreme_of test sheets)).place ≡ 0 ↔ count sheets sound ≡ 0
  place_none sheets = (λ e. go e (found sheets), λ n. ap (λ x. (shown x).place) (found_none sheets n))
    where
      go : (shown (extreme_of test sheets)).place ≡ 0 → Found sheets (extreme_of test sheets) → count sheets sound ≡ 0
      go e (inl n) = n.0
      go e (inr k) = absurd (omega (arith, rw k.1 at e, k.2.there.inside.low))

-- ---- the smallest and the largest

-- for the smallest total less is ahead
by_smaller : Order smaller (λ x y. x ≤ y) (λ x y. x < y)
by_smaller =
    record {
      passed = λ {x} {y} e. ltb-true x y e;
      failed = λ {x} {y} e. ltb-false x y e;
      same = λ x. omega arith;
      weaker = λ h. omega arith;
      through = λ h k. omega arith;
      apart = λ h k. omega arith;
    }

-- for the largest more is
by_larger : Order larger (λ x y. y ≤ x) (λ x y. y < x)
by_larger =
    record {
      passed = λ {x} {y} e. ltb-true y x e;
      failed = λ {x} {y} e. ltb-false y x e;
      same = λ x. omega arith;
      weaker = λ h. omega arith;
      through = λ h k. omega arith;
      apart = λ h k. omega arith;
    }

module _ (sheets : List (List ℕ)) where
  -- where some sheet is read soundly, the smallest total is that of one: at most that of each, and less than that of each earlier one
  pub smallest_first : 0 < (review_of sheets).sound → Smallest sheets (shown (review_of sheets).smallest)
  unfolding review_of
  smallest_first = found_first by_smaller sheets

  -- and the largest likewise: at least that of each, and more than that of each earlier one
  pub largest_first : 0 < (review_of sheets).sound → Largest sheets (shown (review_of sheets).largest)
  unfolding review_of
  largest_first = found_first by_larger sheets

  -- with none read soundly, there is neither, so that both totals and places are shown as 0
  pub none-sound : (review_of sheets).sound ≡ 0 → ((review_of sheets).smallest ≡ None) × ((review_of sheets).largest ≡ None)
  unfolding review_of
  none-sound e = (found_none by_smaller sheets e, found_none by_larger sheets e)

  -- a place is shown as 0 then and only then
  pub smallest_none : (shown (review_of sheets).smallest).place ≡ 0 ↔ (review_of sheets).sound ≡ 0
  unfolding review_of
  smallest_none = place_none by_smaller sheets

  pub largest_none : (shown (review_of sheets).largest).place ≡ 0 ↔ (review_of sheets).sound ≡ 0
  unfolding review_of
  largest_none = place_none by_larger sheets

-- no other total and place are the smallest so
pub smallest_unique : {sheets : List (List ℕ)} {x y : Extreme} → Smallest sheets x → Smallest sheets y → x ≡ y
smallest_unique = first_only by_smaller

-- nor the largest
pub largest_unique : {sheets : List (List ℕ)} {x y : Extreme} → Largest sheets x → Largest sheets y → x ≡ y
largest_unique = first_only by_larger
