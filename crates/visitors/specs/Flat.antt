-- Edges put down as a flat list of their numbers: they are the edges of that list.
-- Assumes nothing.
use Rattle.std.specs.Prelude.{ℕ, zero, suc, ◌*◌, ◌/◌, ◌<◌, ◌≡◌, refl, List, [], ◌∷◌, ◌++◌, length, get_or}
use Rattle.std.proofs.Common.{le_of_suc-le-suc, not-suc-le-zero, suc-add, arith, ap, ◌∙◌, ext_get_or}
use Rattle.lists.specs.Sums.{list_of}
use Rattle.lists.specs.ListLaws.{length-list_of, get_or-list_of}
use Rattle.meaning.specs.Plan.{Edge, edge_length, edge_at, edges_of}

-- the numbers of edges, one edge after the other
unfoldable pub flat : List Edge → List ℕ
flat [] = []
flat (e ∷ es) = e.a ∷ e.b ∷ e.area ∷ flat es

-- how many numbers they are
pub length-flat : (es : List Edge) → length (flat es) ≡ edge_length * length es
unfolding flat
length-flat [] = refl
length-flat (e ∷ es) = omega (arith, length-flat es)

-- the numbers of two lists of edges
pub flat_append : (es fs : List Edge) → flat (es ++ fs) ≡ flat es ++ flat fs
unfolding flat
flat_append [] fs = refl
flat_append (e ∷ es) fs = ap (λ l. e.a ∷ e.b ∷ e.area ∷ l) (flat_append es fs)

-- an edge that is in no list
abbrev pub no_edge : Edge
no_edge = record { a = 0; b = 0; area = 0 }

-- the flat list has each edge at its index
edge_flat : (es : List Edge) (k : ℕ) → k < length es → edge_at (flat es) k ≡ get_or es k no_edge
unfolding flat
edge_flat [] k h = absurd (not-suc-le-zero h)
edge_flat (e ∷ es) zero h = refl
edge_flat (e ∷ es) (suc k) h =
    let m : edge_length * suc k ≡ suc (suc (suc (edge_length * k))) = omega arith in
    rw m (simp suc-add (edge_flat es k (le_of_suc-le-suc h)))

-- and no others
pub edges-flat : (es : List Edge) → edges_of (flat es) ≡ es
unfolding edges_of
edges-flat es = rw count (ext_get_or no_edge (list_of n edge) es size (λ k h. same k (rw size at h)))
  where
    n : ℕ
    n = length es

    edge : ℕ → Edge
    edge = edge_at (flat es)

    count : length (flat es) / edge_length ≡ n
    count = omega (arith, length-flat es)

    size : length (list_of n edge) ≡ n
    size = length-list_of n edge

    same : (k : ℕ) → k < n → get_or (list_of n edge) k no_edge ≡ get_or es k no_edge
    same k h = get_or-list_of n edge no_edge k h ∙ edge_flat es k h
