-- The labels of the components of a sector that share a face with a region lie between two numbers: the row of the region is gone through once.
-- Assumes nothing.
use Rattle.std.specs.Prelude.{ℕ, ◌+◌, ◌-◌, ◌≤◌, ◌<◌, min, max, ◌≡◌, refl, List, ◌≢◌, ◌⊎◌, Bool, true, false, cond, eqb, length, get_or}
use Rattle.std.proofs.Common.{arith, inl, inr, eqb-true}
use Rattle.std.proofs.Math.Decide.{dec_lt}
use Rattle.std.proofs.lemmas.Bool.{eqb-false}
use Rattle.lists.specs.Sums.{In, at}
use Rattle.lists.specs.Tests.{cond-le}
use Rattle.lists.specs.Parts.{Passed, passed_start, passed_turn, passed_map}
use Rattle.meaning.specs.Plan.{Edge}
use Rattle.meaning.specs.Faces.{Shares}
use Rattle.neighbours.specs.Net.{Net, net_in}
use Rattle.search.specs.Scan.{Row, net_row}
use Rattle.std.specs.Ordering.{nat_cmp, ord_max}
use Rattle.std.proofs.lemmas.Grind.{common_steps}

-- the larger of two numbers, as a program takes it
pub larger : (a b : ℕ) → ord_max nat_cmp a b ≡ max a b
larger a b = grind (arith, common_steps)

-- what it starts from: the array of neighbours, a sector and a label for each region, and a region
pub record Rangeable (R : ℕ) (edges : List Edge) (start nb col ls : List ℕ) (v : ℕ) : Type 0 where
  pub net : Net R edges start nb
  pub sectors : length col ≡ R
  pub labels : length ls ≡ R
  pub region : In R v

-- what it comes to: low is the smallest of `top` and those labels, and high the largest of them, or 0 where there is none
pub record Ranged (edges : List Edge) (col ls : List ℕ) (v d top low high : ℕ) : Type 0 where
  pub own : low ≤ top
  pub stands : (low ≡ top) ⊎ Shares edges col ls v d low
  pub reaches : (high ≡ 0) ⊎ Shares edges col ls v d high
  pub between : (l : ℕ) → Shares edges col ls v d l → (low ≤ l) × (l ≤ high)

-- the neighbours of v up to place j are gone through: the labels of those of sector d lie between low and high
pub record Ranging (R : ℕ) (edges : List Edge) (start nb col ls : List ℕ) (v d top low high j : ℕ) : Type 0 where
  pub given : Rangeable R edges start nb col ls v
  pub own : low ≤ top
  pub stands : (low ≡ top) ⊎ Shares edges col ls v d low
  pub reaches : (high ≡ 0) ⊎ Shares edges col ls v d high
  pub passed : Passed (λ x. at col x ≡ d → (low ≤ at ls x) × (at ls x ≤ high)) nb (at start v) (get_or start v 0) j

module _ {R : ℕ} {edges : List Edge} {start nb col ls : List ℕ} {v : ℕ} where
  -- v has a row
  pub rangeable_row : Rangeable R edges start nb col ls v → Row start nb v
  rangeable_row g = net_row g.net g.region

  -- none of its neighbours is gone through yet
  pub ranging_start : {d top : ℕ} → Rangeable R edges start nb col ls v → Ranging R edges start nb col ls v d top top 0 (at start v)
  ranging_start g = record { given = g; own = omega arith; stands = inl refl; reaches = inl refl; passed = passed_start (g.net.rise v g.region) }

  module _ {d top low high j : ℕ} (a : Ranging R edges start nb col ls v d top low high j) where
    -- all of them are
    pub ranging_end : get_or start v 0 ≤ j → Ranged edges col ls v d top low high
    ranging_end h = record { own = a.own; stands = a.stands; reaches = a.reaches; between = λ l s. rw s.label at (each s) }
      where
        each : {l : ℕ} (s : Shares edges col ls v d l) → (low ≤ at ls s.w) × (at ls s.w ≤ high)
        each s =
            let p = a.given.net.all v s.w a.given.region s.neighbours in
            (rw p.is at (a.passed.each p.index p.low (omega (arith, p.high)))) s.sector

    module _ (h : j < get_or start v 0) where
      -- the next is a region
      pub ranging_in : In R (get_or nb j 0)
      ranging_in = net_in a.given.net v j a.given.region a.passed.low h

      -- it is passed where it has another sector
      pub ranging_past : at col (get_or nb j 0) ≢ d → Ranging R edges start nb col ls v d top low high (j + 1)
      ranging_past n =
          record { given = a.given; own = a.own; stands = a.stands; reaches = a.reaches; passed = passed_turn a.passed h (λ e. absurd (n e)) }

      -- and otherwise its label is taken in
      pub ranging_turn : {low' high' : ℕ} → at col (get_or nb j 0) ≡ d → low' ≡ min low (at ls (get_or nb j 0)) → high' ≡ max high (at ls (get_or nb j 0))
          → Ranging R edges start nb col ls v d top low' high' (j + 1)
      ranging_turn {low'} {high'} s e f =
          record {
            given = a.given;
            own = omega (arith, a.own);
            stands = stands (dec_lt (at ls x) low);
            reaches = reaches (dec_lt high (at ls x));
            passed = passed_turn (passed_map (λ y q t. let b = q t in omega arith) a.passed) h (λ _. omega arith);
          }
        where
          x : ℕ
          x = get_or nb j 0

          share : {l : ℕ} → at ls x ≡ l → Shares edges col ls v d l
          share q = record { w = x; neighbours = a.given.net.beside v j a.given.region a.passed.low h; sector = s; label = q }

          stands : Dec (at ls x < low) → (low' ≡ top) ⊎ Shares edges col ls v d low'
          stands (yes l) = inr (share (omega arith))
          stands (no l) = let q : low' ≡ low = omega arith in rw q a.stands

          reaches : Dec (high < at ls x) → (high' ≡ 0) ⊎ Shares edges col ls v d high'
          reaches (yes l) = inr (share (omega arith))
          reaches (no l) = let q : high' ≡ high = omega arith in rw q a.reaches

      -- what is taken off `top` is not above it
      pub ranging_room : {r : ℕ} → r ≡ cond (eqb (at col (get_or nb j 0)) d) (top - at ls (get_or nb j 0)) 0 → r ≤ top
      ranging_room e = rw e (cond-le (eqb (at col (get_or nb j 0)) d) (omega arith) (omega arith))

      -- both without a branch: where it has another sector, `top` and 0 are taken in
      pub ranging_either : {low' high' r s : ℕ} → at ls (get_or nb j 0) ≤ top → r ≡ cond (eqb (at col (get_or nb j 0)) d) (top - at ls (get_or nb j 0)) 0
          → s ≡ cond (eqb (at col (get_or nb j 0)) d) (at ls (get_or nb j 0)) 0 → low' ≡ min low (top - r) → high' ≡ max high s
          → Ranging R edges start nb col ls v d top low' high' (j + 1)
      ranging_either {low'} {high'} {r} {s} le er es el eh = go (eqb (at col x) d) refl er es
        where
          x : ℕ
          x = get_or nb j 0

          go : (t : Bool) → eqb (at col x) d ≡ t → r ≡ cond t (top - at ls x) 0 → s ≡ cond t (at ls x) 0 → Ranging R edges start nb col ls v d top low' high' (j + 1)
          go true e p q = ranging_turn (eqb-true (at col x) d e) (omega arith) (omega arith)
          go false e p q =
              let same_low : low' ≡ low = omega (arith, a.own) in
              let same-high : high' ≡ high = omega arith in
              rw (same_low, same-high) (ranging_past (eqb-false (at col x) d e))
