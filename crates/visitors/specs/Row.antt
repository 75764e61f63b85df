-- The row of a region: which cells it has, and that they hold the hops at the region.
-- Assumes nothing.
use Prim.Native.Nat.{ℕ, zero, suc, ◌+◌, ◌-◌, ◌≤◌, ◌<◌}
use Rattle.std.proofs.Common.{le_of_suc-le-suc, not-suc-le-zero, ap, ◌∙◌, ne_eqb, drop-cons}
use native.Mathlib.Omega.{arith}
use Rattle.std.specs.Prelude.{◌≡◌, refl, List, [], ◌∷◌, map, Bool, true, false, cond, ◌≢◌, eqb, length, get_or, drop}
use Rattle.std.proofs.lemmas.List.{length-map}
use Rattle.std.proofs.Math.ListN.{get_or-map}
use Rattle.lists.specs.Sums.{In, at, Every}
use Rattle.lists.specs.SumLaws.{every_turn}
use Rattle.meaning.specs.Plan.{Edge}
use Rattle.neighbours.specs.Table.{when, sides, near}
use Rattle.kinds.specs.Constraints.{Paying}
use Rattle.flights.specs.Flying.{Flying}
use Rattle.visitors.specs.Flat.{no_edge}
use Rattle.visitors.specs.Hops.{hops_of, hops_at}
use Rattle.visitors.specs.HopLaws.{Numbered, HopLimits, each-hop}
use Rattle.visitors.specs.Visitors.{Visitors, Pricing}

-- where no flight has the number v, the edges at v are the hops at v
sides-hops : (f : ℕ → ℕ → ℕ) (v : ℕ) (es : List Edge) → Every (λ e. e.b ≢ v) es → sides f es v ≡ map (λ e. f e.b e.area) (hops_at v es)
unfolding sides hops_at
sides-hops f v [] n = refl
sides-hops f v (e ∷ es) n = rw (ne_eqb e.b v n.0) (go (eqb e.a v) (sides-hops f v es n.1))
  where
    go : (t : Bool) → sides f es v ≡ map (λ e. f e.b e.area) (hops_at v es)
        → when t (f e.b e.area) (sides f es v) ≡ map (λ e. f e.b e.area) (cond t (e ∷ hops_at v es) (hops_at v es))
    go true r = ap (λ l. f e.b e.area ∷ l) r
    go false r = r

-- what each hop has, each hop at v has
every_hops_at : (P : Edge → Type 0) (v : ℕ) (es : List Edge) → Every P es → Every P (hops_at v es)
unfolding hops_at
every_hops_at P v [] p = tt
every_hops_at P v (e ∷ es) p = go (eqb e.a v) (every_hops_at P v es p.1)
  where
    go : (t : Bool) → Every P (hops_at v es) → Every P (cond t (e ∷ hops_at v es) (hops_at v es))
    go true r = (p.0, r)
    go false r = r

-- what each of a list has, the one at an index has
every_get_or : {A : Type 0} (P : A → Type 0) (d : A) (xs : List A) (k : ℕ) → Every P xs → k < length xs → P (get_or xs k d)
every_get_or P d [] k e h = absurd (not-suc-le-zero h)
every_get_or P d (x ∷ xs) zero e h = e.0
every_get_or P d (x ∷ xs) (suc k) e h = every_get_or P d xs k e.1 (le_of_suc-le-suc h)

-- a region, and the rows of flights and constraints within the limits
pub record Row (R : ℕ) (timed counts visits starts numbers firsts : List ℕ) (v : ℕ) : Type 0 where
  pub timing : Paying timed
  pub flying : Flying R counts visits
  pub visitors : Visitors R counts visits starts numbers firsts
  pub region : In R v

-- with constraints there are rows
pub pricing_row : {R : ℕ} {timed counts visits starts numbers firsts : List ℕ} {v : ℕ} → Pricing R timed counts visits starts numbers firsts → In R v
    → length timed ≢ 0 → Row R timed counts visits starts numbers firsts v
pricing_row p i h = record { timing = p.timing; flying = p.flying; visitors = p.table (omega arith); region = i }

-- the hops of all flights at a region
abbrev pub row_of : ℕ → List ℕ → List ℕ → ℕ → List Edge
row_of R counts visits v = hops_at v (hops_of R counts visits)

module _ {R : ℕ} {timed counts visits starts numbers firsts : List ℕ} {v : ℕ} (r : Row R timed counts visits starts numbers firsts v) where
  -- a region is an end of edges
  inside : In (R + length counts) v
  inside = omega (arith, r.region)

  -- its edges are the hops at it
  row-sides : (f : ℕ → ℕ → ℕ) → sides f (hops_of R counts visits) v ≡ map (λ e. f e.b e.area) (row_of R counts visits v)
  row-sides f = sides-hops f v _ (every_turn (λ e h z. omega (arith, h.flight.above, r.region.high)) (hops_of R counts visits) (each-hop r.flying))

  -- and as many
  row-length : length (near (hops_of R counts visits) v) ≡ length (row_of R counts visits v)
  row-length = ap length (row-sides (λ w area. w)) ∙ length-map (row_of R counts visits v) (λ e. e.b)

  -- which fill its cells
  pub row_end_lem : at starts v + length (row_of R counts visits v) ≡ get_or starts v 0
  row_end_lem = omega (arith, row-length, r.visitors.table.next v inside)

  -- all of which are there
  pub row_fits : (v < length starts) × (get_or starts v 0 ≤ length numbers) × (length firsts ≡ length numbers)
  row_fits = let t = r.visitors.table in (omega (arith, t.size, inside), t.fits v inside, t.same)

  module _ {j : ℕ} (low : at starts v ≤ j) (high : j < get_or starts v 0) where
    -- the index of a cell in the row
    below : j - at starts v < length (row_of R counts visits v)
    below = omega (arith, row_end_lem)

    -- the hop of the cell
    pub cell_hop : Edge
    cell_hop = get_or (row_of R counts visits v) (j - at starts v) no_edge

    -- what g makes of it stands in the cell, where the cells have what g makes of the row
    row_cell : (cells : List ℕ) (g : Edge → ℕ) → g no_edge ≡ 0
        → get_or cells (at starts v + (j - at starts v)) 0 ≡ get_or (map g (row_of R counts visits v)) (j - at starts v) 0 → get_or cells j 0 ≡ g cell_hop
    unfolding cell_hop
    row_cell cells g z e =
        let place : at starts v + (j - at starts v) ≡ j = omega arith in
        rw place at e ∙ (rw z at (get_or-map g (row_of R counts visits v) (j - at starts v) no_edge))

    -- its flight's number
    pub row_number : get_or numbers j 0 ≡ cell_hop.b
    row_number = row_cell numbers (λ e. e.b) refl (rw (row-sides (λ w area. w)) at (r.visitors.table.cell v (j - at starts v) inside (rw row-length below)))

    -- and the index of the flight's first visit
    pub row_first : get_or firsts j 0 ≡ cell_hop.area
    row_first = row_cell firsts (λ e. e.area) refl (rw (row-sides (λ w area. area)) at (r.visitors.table.area v (j - at starts v) inside (rw row-length below)))

    -- the flight is there
    pub row_numbered : Numbered R counts visits (get_or numbers j 0) (get_or firsts j 0)
    unfolding cell_hop
    row_numbered = rw (row_number, row_first) (every_get_or (HopLimits R counts visits) no_edge (row_of R counts visits v) _ (every_hops_at _ v _ (each-hop r.flying)) below).flight

    -- from the cell on: its hop, and those after it
    pub row_drop : drop (j - at starts v) (row_of R counts visits v) ≡ cell_hop ∷ drop (j + 1 - at starts v) (row_of R counts visits v)
    unfolding cell_hop
    row_drop =
        let e : j + 1 - at starts v ≡ suc (j - at starts v) = omega arith in
        rw e (drop-cons (row_of R counts visits v) (j - at starts v) no_edge below)
