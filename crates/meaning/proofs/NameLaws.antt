-- Laws of names: a new name is a sector's where the old one is, different sectors have different names, and a move's numbers in the new names ask for the move in the new names.
-- Assumes nothing.
use Rattle.std.specs.Prelude.{ℕ, ◌-◌, ◌≤◌, ◌≡◌, Bool, ◌&&◌, List, eqb, get_or, Option, Some, None}
use Rattle.std.proofs.Common.{arith, sym, ap}
use Rattle.std.proofs.Math.Decide.{dec_le}
use Rattle.std.proofs.Math.Path.{refl}
use Rattle.std.proofs.Math.Bool.{true, false, cond}
use borrow.Author.Tests.{eqb-true, eq-eqb, le-leb, lt-leb}
use Rattle.std.proofs.Math.Dec.{leb}
use Rattle.std.proofs.lemmas.List.{length-map}
use Rattle.std.proofs.Math.ListN.{get_or-map}
use Rattle.lists.specs.Sums.{In, at}
use Rattle.lists.specs.Tests.{test-same}
use Rattle.terms.specs.Plan.{within, region_of, sector_of}
use Rattle.terms.specs.Moves.{no_kind, no_second, recolouring, exchange, question, of_region, move_of}
use Rattle.terms.specs.declared.Region.{Region}
use Rattle.terms.specs.declared.Move.TheVariants.{Ask, Refused}
use Rattle.meaning.proofs.Together.{Together}
use Rattle.meaning.specs.Names.{Renaming, name, renamed, renamed_move, renamed_second}

-- ---- a name

-- a number is one of 1..S, and the test says so, or it is not
data Known (S c : ℕ) : Bool → Type 0 where
  one : In S c → Known S c true
  other : (In S c → ⊥) → Known S c false

known : (S c : ℕ) → Known S c (within 1 c S)
known S c = go (dec_le 1 c) (dec_le c S)
  where
    go : Dec (1 ≤ c) → Dec (c ≤ S) → Known S c (within 1 c S)
    go (yes x) (yes y) = rw (le-leb 1 c x, le-leb c S y) (one (record { low = x; high = y }))
    go (yes x) (no y) = rw (le-leb 1 c x, lt-leb c S (omega arith)) (other (λ i. y i.high))
    go (no x) y = rw (lt-leb 1 c (omega arith)) (other (λ i. x i.low))

module _ (S : ℕ) (p : ℕ → ℕ) where
  -- the name of a sector is as the renaming has it
  pub name-sector : {c : ℕ} → In S c → name S p c ≡ p c
  unfolding name
  name-sector {c} i = rw (le-leb 1 c i.low, le-leb c S i.high)

  -- 0 is no sector
  pub name-zero : name S p 0 ≡ 0
  unfolding name
  name-zero = refl

  -- a number of a renamed colouring is the name of the one that stood there
  pub get_or-renamed : (col : List ℕ) (k : ℕ) → get_or (renamed S p col) k 0 ≡ name S p (get_or col k 0)
  get_or-renamed col k = rw name-zero at (get_or-map (name S p) col k 0)

  -- so a region's sector in it is its sector's name
  pub at_renamed : (col : List ℕ) (u : ℕ) → at (renamed S p col) u ≡ name S p (at col u)
  at_renamed col u = get_or-renamed col (u - 1)

module _ {S : ℕ} {p : ℕ → ℕ} (r : Renaming S p) where
  -- different numbers have different names
  name_apart : (c d : ℕ) → name S p c ≡ name S p d → c ≡ d
  unfolding name
  name_apart c d = go (known S c) (known S d)
    where
      go : {s t : Bool} → Known S c s → Known S d t → cond s (p c) c ≡ cond t (p d) d → c ≡ d
      go (one i) (one j) e = r.apart c d i j e
      go (one i) (other j) e = absurd (j (rw (← e) (r.within c i)))
      go (other i) (one j) e = absurd (i (rw e (r.within d j)))
      go (other i) (other j) e = e

  -- so two names are equal where the numbers are
  pub name-eqb : (c d : ℕ) → eqb (name S p c) (name S p d) ≡ eqb c d
  name-eqb c d =
      test-same _ _ (λ t. eq-eqb c d (name_apart c d (eqb-true _ _ t))) (λ t. eq-eqb _ _ (ap (name S p) (eqb-true c d t)))

  -- and a name is a sector's where the number is
  pub name-within : (c : ℕ) → within 1 (name S p c) S ≡ within 1 c S
  unfolding name
  name-within c = go (within 1 c S) refl (known S c)
    where
      go : (t : Bool) → within 1 c S ≡ t → Known S c t → within 1 (cond t (p c) c) S ≡ t
      go true e (one i) = let j = r.within c i in rw (le-leb 1 (p c) j.low, le-leb (p c) S j.high)
      go false e (other i) = e

  -- the renamed colouring puts the same regions together
  pub renamed-together : (col : List ℕ) → Together col (renamed S p col)
  renamed-together col =
      record {
        size = sym (length-map col (name S p));
        pair = λ u w. rw (at_renamed S p col u, at_renamed S p col w, name-eqb (at col u) (at col w));
      }

  -- ---- a move

  named_recolouring : (make : Bool) (v : Region) (b : ℕ) → recolouring make v (sector_of S (name S p b)) ≡ renamed_move S p (recolouring make v (sector_of S b))
  unfolding recolouring
  named_recolouring make v b = rw (name-within b) (go (within 1 b S))
    where
      go : (t : Bool) → recolouring make v (cond t (Some (record { 0 = name S p b })) None) ≡ renamed_move S p (recolouring make v (cond t (Some (record { 0 = b })) None))
      go true = refl
      go false = refl

  named_exchange : (make : Bool) (v : Region) (w : Option Region) → exchange make v w ≡ renamed_move S p (exchange make v w)
  unfolding exchange
  named_exchange make v (Some w) = refl
  named_exchange make v None = refl

  named_question : (v : Region) (b : ℕ) → question v b ≡ renamed_move S p (question v b)
  unfolding question
  named_question v b = go (eqb b 0)
    where
      go : (t : Bool) → cond t (Ask v) (Refused no_second) ≡ renamed_move S p (cond t (Ask v) (Refused no_second))
      go true = refl
      go false = refl

  -- a move of kind 1 to 5 whose first number is a region
  named_region : (R kind b : ℕ) (v : Option Region) → of_region R S kind v (cond (leb kind 2) (name S p b) b) ≡ renamed_move S p (of_region R S kind v b)
  unfolding of_region
  named_region R kind b None = refl
  named_region R kind b (Some v) = go (leb kind 2) (leb kind 4)
    where
      go : (x y : Bool) → let c = cond x (name S p b) b in
          cond x (recolouring (eqb kind 2) v (sector_of S c)) (cond y (exchange (eqb kind 4) v (region_of R c)) (question v c))
          ≡ renamed_move S p (cond x (recolouring (eqb kind 2) v (sector_of S b)) (cond y (exchange (eqb kind 4) v (region_of R b)) (question v b)))
      go true y = named_recolouring (eqb kind 2) v b
      go false true = named_exchange (eqb kind 4) v (region_of R b)
      go false false = named_question v b

  -- three numbers in the new names ask for the move in the new names; refused numbers keep their refusals
  pub named_move : (R kind a b : ℕ) → move_of R S kind a (renamed_second S p kind b) ≡ renamed_move S p (move_of R S kind a b)
  unfolding move_of
  named_move R kind a b = go (leb 1 kind) (leb kind 5)
    where
      go : (s t : Bool) → cond (s && t) (of_region R S kind (region_of R a) (cond (s && leb kind 2) (name S p b) b)) (Refused no_kind) ≡ renamed_move S p (cond (s && t) (of_region R S kind (region_of R a) b) (Refused no_kind))
      go true true = named_region R kind b (region_of R a)
      go true false = refl
      go false t = refl
