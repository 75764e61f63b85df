-- Document 02, C-18 and C-21: what is lost, and what it is given, in a colouring by other names.
-- Assumes nothing.
use Prim.Native.Nat.{ℕ, ◌-◌}
use Rattle.std.proofs.Math.Decide.{ℕ_discrete}
use Rattle.std.specs.Prelude.{◌≡◌, refl, ◌≢◌, Bool, ◌&&◌, List, map, eqb, length}
use Rattle.std.proofs.Common.{sym, ap, ◌∙◌, eqb-true, eq-eqb, ne_eqb}
use Rattle.std.proofs.Math.Path.{fun_ext}
use Rattle.std.proofs.Math.Bool.{not}
use Rattle.std.proofs.lemmas.Bool.{eqb-false}
use Rattle.std.proofs.Math.ListN.{get_or, get_or-map}
use Rattle.std.proofs.lemmas.List.{length-map}
use Rattle.lists.specs.Sums.{In, at, up_to, passing}
use Rattle.lists.specs.SumLaws.{at_map}
use Rattle.lists.specs.Places.{ext_at}
use Rattle.meaning.specs.Plan.{Edge}
use Rattle.mending.specs.Mended.{is_lost, lost, joins, lowest_beside, mended}
use Rattle.mending.specs.MendedLaws.{length-mended, mended-kept, mended-given, given-sector}

-- where region v is lost, it has a neighbour whose sector survived
abbrev pub KeptBeside : List Edge → List ℕ → ℕ → Type 0
KeptBeside edges col v = at col v ≡ 0 → lowest_beside edges col v ≢ 0

module _ (g : ℕ → ℕ) (same : (x : ℕ) → eqb (g x) 0 ≡ eqb x 0) (col : List ℕ) where
  -- a region has g of what it has in the first colouring
  at_mapped : (v : ℕ) → at (map g col) v ≡ g (at col v)
  at_mapped v = rw (eqb-true (g 0) 0 (same 0)) at (get_or-map g col (v - 1) 0)

  -- it is lost in both or in neither
  same-lost : (v : ℕ) → is_lost (map g col) v ≡ is_lost col v
  same-lost v = rw (at_mapped v) (same (at col v))

  -- so the same regions are lost
  pub lost_mapped : lost (map g col) ≡ lost col
  lost_mapped = rw (length-map col g) (ap (λ (test : ℕ → Bool). passing test (up_to (length col))) (fun_ext same-lost))

  module _ (edges : List Edge) where
    -- and the same neighbour of each is the lowest whose sector survived
    pub lowest_mapped : (v : ℕ) → lowest_beside edges (map g col) v ≡ lowest_beside edges col v
    unfolding lowest_beside
    lowest_mapped v =
        rw (length-map col g)
        (ap (λ (test : ℕ → Bool). get_or (passing (λ w. joins edges v w && not (test w)) (up_to (length col))) 0 0) (fun_ext same-lost))

    -- so a region that is not lost, or has such a neighbour, has g of what it has in the first colouring, mended
    pub mended_mapped : (v : ℕ) → In (length col) v → KeptBeside edges col v → at (mended edges (map g col)) v ≡ g (at (mended edges col) v)
    mended_mapped v i some = go (ℕ_discrete (at col v) 0)
      where
        j : In (length (map g col)) v
        j = rw (length-map col g) i

        go : Dec (at col v ≡ 0) → at (mended edges (map g col)) v ≡ g (at (mended edges col) v)
        go (yes e) =
            mended-given edges (map g col) j (eqb-true _ 0 (same-lost v ∙ eq-eqb (at col v) 0 e))
            ∙ given-sector edges (map g col) v (sym (lowest_mapped v)) (some e)
            ∙ at_mapped (lowest_beside edges col v)
            ∙ ap g (sym (mended-given edges col i e ∙ given-sector edges col v refl (some e)))
        go (no n) = mended-kept edges (map g col) j (eqb-false _ 0 (same-lost v ∙ ne_eqb (at col v) 0 n)) ∙ at_mapped v ∙ ap g (sym (mended-kept edges col i n))

    -- where each is so, the mended colouring is the first, mended, by the other names
    pub all_mapped : ((v : ℕ) → In (length col) v → KeptBeside edges col v) → mended edges (map g col) ≡ map g (mended edges col)
    all_mapped some =
        ext_at _ _ (length-mended edges (map g col) ∙ length-map col g) (length-map (mended edges col) g ∙ length-mended edges col)
        (λ v i. mended_mapped v i (some v i) ∙ sym (at_map g (mended edges col) v (rw (length-mended edges col) i)))
