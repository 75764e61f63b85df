-- The report's section 5.2 and document 02, C-12: with an outer vertex that shares a face with each region, T and a region's border are sums over the faces whose ends differ in colour.
-- A region without a face to the outside has one of area 0.
-- Assumes nothing.
use Prim.Native.Nat.{ℕ, ◌+◌, ◌-◌}
use Rattle.std.proofs.Common.{arith, sym, ap, ◌∙◌, eq-eqb, ne_eqb}
use Rattle.std.proofs.Math.Decide.{ℕ_discrete}
use Rattle.std.specs.Prelude.{◌≡◌, refl, List, [], ◌∷◌, ◌++◌, map, ◌≢◌, false, cond, ◌&&◌, ◌||◌, eqb}
use Rattle.std.proofs.Math.Bool.{Bool, not}
use Rattle.std.proofs.Math.ListN.{get_or-append}
use Rattle.std.proofs.lemmas.List.{get_or_at}
use Rattle.lists.specs.Sums.{In, at, sum}
use Rattle.lists.specs.SumLaws.{sum-append, sum-map, sum_ext, sum_same, sum_one, every_turn}
use Rattle.meaning.specs.Plan.{Edge, Plan, regions, EdgeLimits, Limits, Coloured}
use Rattle.meaning.specs.Kinds.{crosses, area_of, outside_area, border, leads_to, border_of}

-- the outer vertex, which is no region
abbrev pub outer : Plan → ℕ
outer P = P.R + 1

-- the face that region u shares with the outer vertex
abbrev pub outer_face : Plan → ℕ → Edge
outer_face P u = record { a = u; b = outer P; area = at P.outside u }

-- all faces: the edges, and each region's with the outer vertex
abbrev pub faces : Plan → List Edge
faces P = P.edges ++ map (outer_face P) (regions P)

-- the colours of all vertices, where the outer vertex has colour c
abbrev pub colours : List ℕ → ℕ → List ℕ
colours col c = col ++ (c ∷ [])

-- w is one of the vertices W
unfoldable pub is_in : List ℕ → ℕ → Bool
is_in [] w = false
is_in (v ∷ W) w = eqb v w || is_in W w

-- the report's equation (10): the summed area of the faces of each v of W whose other end is not in W and differs in colour from v
unfoldable pub surface : List Edge → List ℕ → List ℕ → ℕ
surface faces colours W = sum W (λ v. area_of faces (leads_to (λ w. not (is_in W w) && not (eqb (at colours w) (at colours v))) v))

-- there is a colour that no region has: 0
pub zero_free : {P : Plan} {col : List ℕ} → Coloured P col → (u : ℕ) → In P.R u → at col u ≢ 0
zero_free k u i e = omega (arith, (k.sector u i).low)

module _ {P : Plan} {col : List ℕ} (l : Limits P) (k : Coloured P col) (c : ℕ) (free : (u : ℕ) → In P.R u → at col u ≢ c) where
  -- a region has the colour of its sector
  inner_colour : (u : ℕ) → In P.R u → at (colours col c) u ≡ at col u
  inner_colour u i = get_or-append col (c ∷ []) 0 (u - 1) (omega (arith, k.size))

  -- the outer vertex has colour c
  outer_colour : at (colours col c) (outer P) ≡ c
  outer_colour = get_or_at col c [] 0 (outer P - 1) (omega (arith, k.size))

  -- an area of faces is that of the edges and that of the faces with the outer vertex
  area_parts : (p q : Edge → Bool) → ((e : Edge) → EdgeLimits P.R e → p e ≡ q e)
      → area_of (faces P) p ≡ area_of P.edges q + sum (regions P) (λ u. cond (p (outer_face P u)) (at P.outside u) 0)
  area_parts p q same =
      sum-append P.edges (map (outer_face P) (regions P)) _
      ∙ rw (sum-map (outer_face P) (regions P), sum_ext P.edges _ _ (every_turn (λ e h. ap (λ t. cond t e.area 0) (same e h)) P.edges l.edge))

  -- T is the summed area of the faces whose two ends differ in colour
  pub border-outer : area_of (faces P) (crosses (colours col c)) ≡ border P col
  unfolding border outside_area
  border-outer = omega (arith, area_parts (crosses (colours col c)) (crosses col) inner, sum_same P.R _ (at P.outside) outward)
    where
      inner : (e : Edge) → EdgeLimits P.R e → crosses (colours col c) e ≡ crosses col e
      inner e h = rw (inner_colour e.a (omega arith), inner_colour e.b (omega arith))

      outward : (u : ℕ) → In P.R u → cond (crosses (colours col c) (outer_face P u)) (at P.outside u) 0 ≡ at P.outside u
      outward u i = rw (inner_colour u i, outer_colour, ne_eqb (at col u) c (free u i))

  -- a region's border is equation (10) for it alone
  pub region_outer : (v : ℕ) → In P.R v → surface (faces P) (colours col c) (v ∷ []) ≡ border_of P col v
  unfolding surface is_in leads_to border_of
  region_outer v i = omega (arith, area_parts (leads_to leaves v) (leads_to differs v) inner, sum_one P.R v _ i others, own)
    where
      leaves : ℕ → Bool
      leaves w = not (is_in (v ∷ []) w) && not (eqb (at (colours col c) w) (at (colours col c) v))

      differs : ℕ → Bool
      differs w = not (eqb (at col w) (at col v))

      -- a region that differs from v is not v
      same : (w : ℕ) → In P.R w → leaves w ≡ differs w
      same w j = rw (inner_colour w j, inner_colour v i) (go (ℕ_discrete v w))
        where
          go : Dec (v ≡ w) → (not (eqb v w || false) && differs w) ≡ differs w
          go (yes e) = rw (e, eq-eqb w w refl, eq-eqb (at col w) (at col w) refl)
          go (no ne) = rw (ne_eqb v w ne)

      inner : (e : Edge) → EdgeLimits P.R e → leads_to leaves v e ≡ leads_to differs v e
      inner e h = rw (same e.a (omega arith), same e.b (omega arith))

      far : v ≢ outer P
      far e = omega (arith, i.high)

      own : cond (leads_to leaves v (outer_face P v)) (at P.outside v) 0 ≡ at P.outside v
      own = rw (eq-eqb v v refl, ne_eqb v (outer P) far, outer_colour, inner_colour v i, ne_eqb c (at col v) (λ e. free v i (sym e)))

      others : (u : ℕ) → In P.R u → u ≢ v → cond (leads_to leaves v (outer_face P u)) (at P.outside u) 0 ≡ 0
      others u j ne = rw (ne_eqb u v ne, ne_eqb (outer P) v (λ e. far (sym e)))
