-- A colouring goes to another, and no regions but those of two sectors notice it.
-- Assumes nothing.
use Rattle.std.specs.Prelude.{ℕ, ◌-◌, ◌≡◌, refl, List, ◌≢◌, length}
use Rattle.std.proofs.Common.{arith, sym, ap, ◌∙◌, length-set}
use Rattle.std.proofs.Math.Decide.{ℕ_discrete}
use Rattle.lists.specs.Sums.{In, at}
use Rattle.lists.specs.Places.{at_set, at_set_other}
use Rattle.meaning.specs.Moves.{recolour, swap}
use Rattle.meaning.proofs.Alike.{Agree}

-- from one colouring to the other only regions of sectors c and d have another sector, and it is one of these two
pub record Confined (R S : ℕ) (col col' : List ℕ) (c d : ℕ) : Type 0 where
  pub size : length col ≡ R
  pub size' : length col' ≡ R
  pub sector : (u : ℕ) → In R u → In S (at col u)
  pub sector' : (u : ℕ) → In R u → In S (at col' u)
  pub kept : (u : ℕ) → In R u → at col u ≢ c → at col u ≢ d → at col' u ≡ at col u
  pub back : (u : ℕ) → In R u → at col' u ≢ c → at col' u ≢ d → at col' u ≡ at col u

-- the two colourings agree on which regions are of a sector that is neither of the two
pub confined_agree : {R S : ℕ} {col col' : List ℕ} {c d : ℕ} → Confined R S col col' c d → {u : ℕ} → In R u → at col' u ≢ c → at col' u ≢ d → Agree R col col' u
confined_agree w {u} i nc nd =
    let e = w.back u i nc nd in
    record {
      size = w.size;
      size' = w.size';
      region = i;
      own = λ z. omega (arith, w.sector u i, z);
      own' = λ z. omega (arith, w.sector' u i, z);
      same = λ x k. (
        λ q. w.kept x k (λ z. nc (e ∙ sym q ∙ z)) (λ z. nd (e ∙ sym q ∙ z)) ∙ q ∙ sym e,
        λ q. sym (w.back x k (λ z. nc (sym q ∙ z)) (λ z. nd (sym q ∙ z))) ∙ q ∙ e,
      );
    }

-- on to a third colouring
confined_trans : {R S : ℕ} {col mid col' : List ℕ} {c d : ℕ} → Confined R S col mid c d → Confined R S mid col' c d → Confined R S col col' c d
confined_trans f s =
    record {
      size = f.size;
      size' = s.size';
      sector = f.sector;
      sector' = s.sector';
      kept = λ u i n m. let e = f.kept u i n m in s.kept u i (λ z. n (sym e ∙ z)) (λ z. m (sym e ∙ z)) ∙ e;
      back = λ u i n m. let e = s.back u i n m in e ∙ f.back u i (λ z. n (e ∙ z)) (λ z. m (e ∙ z));
    }

-- the two sectors either way round
confined_turned : {R S : ℕ} {col col' : List ℕ} {c d : ℕ} → Confined R S col col' c d → Confined R S col col' d c
confined_turned w =
    record { size = w.size; size' = w.size'; sector = w.sector; sector' = w.sector'; kept = λ u i n m. w.kept u i m n; back = λ u i n m. w.back u i m n }

module _ {R S : ℕ} {col : List ℕ} (size : length col ≡ R) (sector : (u : ℕ) → In R u → In S (at col u)) where
  -- a colouring stays
  pub confined_none : {c d : ℕ} → Confined R S col col c d
  confined_none = record { size = size; size' = size; sector = sector; sector' = sector; kept = λ u i n m. refl; back = λ u i n m. refl }

  -- a region is given to a sector
  pub confined_recolour : {v d : ℕ} → In R v → In S d → Confined R S col (recolour col v d) (at col v) d
  confined_recolour {v} {d} i j =
      record {
        size = size;
        size' = length-set col (v - 1) d ∙ size;
        sector = sector;
        sector' = λ u k. coloured u k (ℕ_discrete u v);
        kept = λ u k n m. at_set_other col d size i k (λ e. n (ap (at col) e));
        back = λ u k n m. at_set_other col d size i k (λ e. m (ap (at (recolour col v d)) e ∙ at_set col d size i));
      }
    where
      coloured : (u : ℕ) → In R u → Dec (u ≡ v) → In S (at (recolour col v d) u)
      coloured u k (yes e) = rw (e, at_set col d size i) j
      coloured u k (no n) = rw (at_set_other col d size i k n) (sector u k)

module _ {R S : ℕ} {col : List ℕ} (size : length col ≡ R) (sector : (u : ℕ) → In R u → In S (at col u)) where
  -- two regions of different sectors are given each other's
  pub confined_swap : {a b : ℕ} → In R a → In R b → at col a ≢ at col b → Confined R S col (swap col a b) (at col a) (at col b)
  confined_swap {a} {b} i j other =
      let f = confined_recolour size sector i (sector b j) in
      let still : at (recolour col a (at col b)) b ≡ at col b = at_set_other col (at col b) size i j (λ e. other (ap (at col) (sym e))) in
      let s = confined_recolour {col = recolour col a (at col b)} f.size' f.sector' {v = b} {d = at col a} j (sector a i) in
      confined_trans f (confined_turned (rw still at s))
