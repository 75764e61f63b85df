-- Document 02, C-21: with a right colouring a plan is refused for what it is refused for with any other, 8 passed over.
-- Assumes nothing.
use Rattle.std.specs.Prelude.{ℕ, ◌+◌, ◌<◌, ◌≡◌, refl, Bool, true, false, cond, not, ◌&&◌, List, [], ◌∷◌, ◌++◌, eqb, take, drop, get_or}
use Rattle.std.proofs.Common.{arith, sym, ap, ◌∙◌}
use Rattle.std.proofs.Math.Path.{subst}
use borrow.Author.Tests.{eq-eqb, le-leb}
use Rattle.std.proofs.Math.Dec.{T}
use Rattle.std.proofs.Math.ListN.{length}
use Rattle.lists.specs.Sums.{In}
use Rattle.lists.specs.Places.{at_next}
use Rattle.meaning.specs.Plan.{plan_of, Coloured}
use Rattle.scans.specs.Items.{sector_right}
use Rattle.refusals.specs.declared.Refusal.{Refusal}
use Rattle.refusals.specs.Table.{Row, refused, refusal, plan_table, plan_refusal}
use Rattle.refusals.specs.Passed.{Passed, passed_none, each_passed}

-- a code of the table but 8, which is passed over
abbrev pub but_eight : ℕ → ℕ
but_eight code = cond (eqb code 8) 0 code

-- no row has code 8
abbrev others : List Row → Bool
others [] = true
others (r ∷ rs) = not (eqb r.code 8) && others rs

-- every row has
abbrev eights : List Row → Bool
eights [] = true
eights (r ∷ rs) = eqb r.code 8 && eights rs

-- rows of code 8 give no other
eights-none : (rows : List Row) → T (eights rows) → but_eight (refusal rows).code ≡ 0
unfolding refusal
eights-none [] t = refl
eights-none (r ∷ rs) t = go (eqb r.code 8) r.given refl t (eights-none rs)
  where
    go : (e g : Bool) → eqb r.code 8 ≡ e → T (e && eights rs) → (T (eights rs) → but_eight (refusal rs).code ≡ 0)
        → but_eight (cond g (refused r.code r.place) (refusal rs)).code ≡ 0
    go true true e u rest = rw e
    go true false e u rest = rest u
    go false g e u rest = elim u [ ]

-- rows of other codes, and then rows of which none is given, give the code that they give before any rows of code 8, but 8
rows_but_eight : (rows any right : List Row) → T (others rows) → T (eights any) → Passed right → (refusal (rows ++ right)).code ≡ but_eight (refusal (rows ++ any)).code
unfolding refusal
rows_but_eight [] any right t u p = ap (λ (r : Refusal). r.code) (passed_none right p) ∙ sym (eights-none any u)
rows_but_eight (r ∷ rs) any right t u p = go (eqb r.code 8) r.given refl t (λ v. rows_but_eight rs any right v u p)
  where
    go : (e g : Bool) → eqb r.code 8 ≡ e → T (not e && others rs) → (T (others rs) → (refusal (rs ++ right)).code ≡ but_eight (refusal (rs ++ any)).code)
        → (cond g (refused r.code r.place) (refusal (rs ++ right))).code ≡ but_eight (cond g (refused r.code r.place) (refusal (rs ++ any))).code
    go false true e v rest = rw e
    go false false e v rest = rest v
    go true g e v rest = elim v [ ]

-- ---- the rows on a plan and its colouring

module _ (kinds R S : ℕ) (workloads outside edges counts visits constraints : List ℕ) where
  -- those on the plan
  abbrev on_lists : List Row
  on_lists = take 14 (plan_table kinds R S workloads outside edges counts visits constraints [])

  -- and those on a colouring
  abbrev on_colouring : List ℕ → List Row
  on_colouring colouring = drop 14 (plan_table 0 R S [] [] [] [] [] [] colouring)

  module _ {right : List ℕ} (c : Coloured (plan_of R S workloads outside edges counts visits constraints) right) where
    -- of a right colouring none is given
    right_passed : Passed (on_colouring right)
    unfolding plan_table
    right_passed = (rw (eq-eqb (length right) R c.size), (each_passed (sector_right S right) (length right) sector, tt))
      where
        sector : (k : ℕ) → k < length right → T (sector_right S right k)
        sector k m =
            let i = subst (λ (x : ℕ). In S x) (at_next right k) (c.sector (k + 1) (omega (arith, c.size))) in
            rw (le-leb 1 (get_or right k 0) i.low, le-leb (get_or right k 0) S i.high) tt

    -- so with it the plan's code is what it is with any, 8 passed over
    pub but_eight_lem : (any : List ℕ) → (plan_refusal kinds R S workloads outside edges counts visits constraints right).code ≡ but_eight (plan_refusal kinds R S workloads outside edges counts visits constraints any).code
    unfolding plan_table plan_refusal
    but_eight_lem any = rows_but_eight on_lists (on_colouring any) (on_colouring right) tt tt right_passed
