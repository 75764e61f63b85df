-- Document 02, C-21: the laws of a mended colouring and of the list of the lost regions.
-- Assumes nothing.
use Rattle.std.specs.Prelude.{ℕ, ◌+◌, ◌≤◌, ◌≡◌, refl, ◌≢◌, ◌↔◌, Bool, true, false, cond, List, [], ◌∷◌, eqb, length, get_or, filter}
use Rattle.std.proofs.Common.{arith, sym, ◌∙◌, eqb-true, eq-eqb, ne_eqb}
use Rattle.lists.specs.Sums.{In, at, up_to, bit, sum}
use Rattle.lists.specs.SumLaws.{length_table, at_table, every_up_to}
use Rattle.lists.specs.Places.{ext_at, at_next, sum-at}
use Rattle.lists.specs.Tests.{by_eqb}
use Rattle.lists.specs.Among.{Among, Rising, rising_up_to}
use Rattle.lists.specs.Passing.{length-passing, passing-none, passing-up_to, passing_rising}
use Rattle.meaning.specs.Plan.{Edge}
use Rattle.mending.specs.Mended.{is_lost, lost, lowest_beside, sector_given, mended}
use Rattle.mending.specs.Lowest.{LowestNeighbour, lowest_neighbour, lowest_only}

-- ---- the list of the lost regions

-- a list is strictly increasing, and has exactly the regions that are lost
pub record LostRegions (col list : List ℕ) : Type 0 where
  pub rising : Rising list
  pub exactly : (v : ℕ) → Among list v ↔ (In (length col) v × (at col v ≡ 0))

module _ (col : List ℕ) where
  -- such is the list of the lost regions
  pub lost_listed : LostRegions col (lost col)
  lost_listed = record { rising = passing_rising (is_lost col) (up_to (length col)) (rising_up_to (length col)); exactly = exactly }
    where
      exactly : (v : ℕ) → Among (lost col) v ↔ (In (length col) v × (at col v ≡ 0))
      exactly v =
          let p = passing-up_to (is_lost col) (length col) v in
          (λ m. let q = p.0 m in (q.0, eqb-true (at col v) 0 q.1), λ q. p.1 (q.0, eq-eqb (at col v) 0 q.1))

  -- it is empty where every sector survived
  pub lost-none : ((v : ℕ) → In (length col) v → at col v ≢ 0) → lost col ≡ []
  lost-none h = passing-none (is_lost col) (up_to (length col)) (every_up_to _ (length col) (λ v i. ne_eqb (at col v) 0 (h v i)))

  -- region k + 1 is lost where what stands at index k is 0
  pub lost-at : (k : ℕ) → get_or col k 0 ≡ 0 → is_lost col (k + 1) ≡ true
  lost-at k e = eq-eqb _ 0 (at_next col k ∙ e)

  -- and is not lost where that is a sector
  pub kept_at : (k : ℕ) → get_or col k 0 ≢ 0 → is_lost col (k + 1) ≡ false
  kept_at k n = ne_eqb _ 0 (λ e. n (sym (at_next col k) ∙ e))

-- as many are lost as have 0
pub lost_counted : (col : List ℕ) → length (filter (λ x. eqb x 0) col) ≡ length (lost col)
lost_counted col = bits col ∙ sum-at (length col) col (λ x. bit (eqb x 0)) refl ∙ sym (length-passing (is_lost col) (up_to (length col)))
  where
    bits : (xs : List ℕ) → length (filter (λ x. eqb x 0) xs) ≡ sum xs (λ x. bit (eqb x 0))
    bits [] = refl
    bits (x ∷ xs) = go (eqb x 0) (filter (λ x. eqb x 0) xs) (bits xs)
      where
        go : (b : Bool) (ys : List ℕ) {n : ℕ} → length ys ≡ n → length (cond b (x ∷ ys) ys) ≡ bit b + n
        go true ys e = omega arith
        go false ys e = omega arith

-- ---- what a lost region is given

module _ (edges : List Edge) (col : List ℕ) (v : ℕ) {w : ℕ} (is : w ≡ lowest_beside edges col v) where
  -- sector 1, where no neighbour's sector survived
  pub given_one : w ≡ 0 → sector_given edges col v ≡ 1
  unfolding sector_given
  given_one e = rw (eq-eqb (lowest_beside edges col v) 0 (sym is ∙ e))

  -- else the neighbour found is a region
  pub given_region : w ≢ 0 → In (length col) w
  given_region n = rw is ((lowest_neighbour edges col v).region (λ e. n (is ∙ e)))

  -- and its sector is given
  pub given-sector : w ≢ 0 → sector_given edges col v ≡ at col w
  unfolding sector_given
  given-sector n = rw (ne_eqb (lowest_beside edges col v) 0 (λ e. n (is ∙ e)), is)

-- ---- the mended colouring

module _ (edges : List Edge) (col : List ℕ) where
  -- the sector of region v in it
  abbrev pub sector_mended : ℕ → ℕ
  sector_mended v = cond (is_lost col v) (sector_given edges col v) (at col v)

  -- it has as many regions
  pub length-mended : length (mended edges col) ≡ length col
  unfolding mended
  length-mended = length_table (length col) sector_mended

  module _ {v : ℕ} (i : In (length col) v) where
    -- what it says of each
    at-mended : at (mended edges col) v ≡ sector_mended v
    unfolding mended
    at-mended = at_table (length col) sector_mended v i

    -- a region whose sector survived keeps it
    pub mended-kept : at col v ≢ 0 → at (mended edges col) v ≡ at col v
    mended-kept n = at-mended ∙ rw (ne_eqb (at col v) 0 n)

    -- a lost region has the sector that it is given
    pub mended-given : at col v ≡ 0 → at (mended edges col) v ≡ sector_given edges col v
    mended-given e = at-mended ∙ rw (eq-eqb (at col v) 0 e)

    module _ (e : at col v ≡ 0) {w : ℕ} (n : LowestNeighbour edges col v w) where
      -- that is the sector of its lowest-numbered neighbour whose sector survived
      pub mended_neighbour : w ≢ 0 → at (mended edges col) v ≡ at col w
      mended_neighbour z = mended-given e ∙ given-sector edges col v (lowest_only edges col v n) z

      -- or sector 1 where there is none
      pub mended_one : w ≡ 0 → at (mended edges col) v ≡ 1
      mended_one z = mended-given e ∙ given_one edges col v (lowest_only edges col v n) z

  -- it is the same where every sector survived
  pub mended-same : ((v : ℕ) → In (length col) v → at col v ≢ 0) → mended edges col ≡ col
  mended-same h = ext_at (mended edges col) col length-mended refl (λ v i. mended-kept i (h v i))

  module _ {S : ℕ} (one : 1 ≤ S) (known : (v : ℕ) → In (length col) v → at col v ≢ 0 → In S (at col v)) where
    -- where every sector that survived is one of 1..S, a lost region is given one of them
    given_in : (v : ℕ) → In S (sector_given edges col v)
    unfolding sector_given
    given_in v =
        let n = lowest_neighbour edges col v in
        by_eqb (lowest_beside edges col v) 0 (In S) 1 _ (λ e. record { low = omega arith; high = one }) (λ z. known _ (n.region z) (n.kept z))

    -- and so every region has one
    pub mended_in_lem : (v : ℕ) → In (length col) v → In S (at (mended edges col) v)
    mended_in_lem v i = rw (at-mended i) (by_eqb (at col v) 0 (In S) (sector_given edges col v) (at col v) (λ e. given_in v) (known v i))
