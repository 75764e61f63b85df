-- The rows of a table taken in turn give the table's refusal.
-- Assumes nothing.
use Rattle.std.specs.Prelude.{ℕ, ◌≡◌, refl, Bool, true, false, cond, not, ◌&&◌, List, [], ◌∷◌, ◌++◌, eqb, T, take, drop}
use Rattle.std.proofs.Common.{sym, ◌∙◌, ap, ne_eqb}
use Rattle.std.proofs.lemmas.Bool.{eqb-false}
use Rattle.meaning.specs.Plan.{most_kind}
use Rattle.refusals.specs.declared.Refusal.{Refusal}
use Rattle.refusals.specs.Table.{Row, refused, none, refusal, plan_table, room_table, Given, call_table, call_refusal, plan_refusal}

-- what is refused so far, or else what this row refuses
unfoldable pub after : Refusal → Row → Refusal
after f r = cond (eqb f.code 0) (cond r.given (refused r.code r.place) f) f

-- what is refused so far, or else what the first of these rows that is given refuses
unfoldable pub in_turn : Refusal → List Row → Refusal
in_turn f [] = f
in_turn f (r ∷ rs) = in_turn (after f r) rs

-- a row that is not given leaves what is refused so far
pub after_passed : (f : Refusal) (r : Row) → r.given ≡ false → f ≡ after f r
unfolding after
after_passed f r e = rw e (go (eqb f.code 0))
  where
    go : (b : Bool) → f ≡ cond b f f
    go true = refl
    go false = refl

-- no row has code 0, which refuses nothing
abbrev pub coded : List Row → Bool
coded [] = true
coded (r ∷ rs) = not (eqb r.code 0) && coded rs

pub coded_first : (r : Row) (rs : List Row) → T (coded (r ∷ rs)) → (r.code ≡ 0 → ⊥)
coded_first r rs t = go (eqb r.code 0) refl t
  where
    go : (b : Bool) → eqb r.code 0 ≡ b → T (not b && coded rs) → (r.code ≡ 0 → ⊥)
    go false e t = eqb-false r.code 0 e
    go true e t = elim t [ ]

pub coded_rest : (r : Row) (rs : List Row) → T (coded (r ∷ rs)) → T (coded rs)
coded_rest r rs t = go (eqb r.code 0) t
  where
    go : (b : Bool) → T (not b && coded rs) → T (coded rs)
    go false t = t
    go true t = elim t [ ]

-- ---- a table in turn

-- what is refused stands, whatever rows come after it
refused-stands : (f : Refusal) (rs : List Row) → (f.code ≡ 0 → ⊥) → in_turn f rs ≡ f
unfolding after in_turn
refused-stands f [] h = refl
refused-stands f (r ∷ rs) h = rw (ne_eqb f.code 0 h) (refused-stands f rs h)

module _ (r : Row) (rs : List Row) where
  turn_given : r.given ≡ true → (r.code ≡ 0 → ⊥) → in_turn none (r ∷ rs) ≡ refusal (r ∷ rs)
  unfolding after in_turn refusal
  turn_given e h = rw e (refused-stands (refused r.code r.place) rs h)

  turn_passed : r.given ≡ false → in_turn none rs ≡ refusal rs → in_turn none (r ∷ rs) ≡ refusal (r ∷ rs)
  unfolding after in_turn refusal
  turn_passed e h = rw e h

  -- one row more, given or not
  turn : (r.code ≡ 0 → ⊥) → in_turn none rs ≡ refusal rs → in_turn none (r ∷ rs) ≡ refusal (r ∷ rs)
  turn h rest = go r.given refl
    where
      go : (b : Bool) → r.given ≡ b → in_turn none (r ∷ rs) ≡ refusal (r ∷ rs)
      go true e = turn_given e h
      go false e = turn_passed e rest

-- the rows of a table in turn, from none, give its refusal
pub in_turn_lem : (rows : List Row) → T (coded rows) → in_turn none rows ≡ refusal rows
unfolding in_turn refusal
in_turn_lem [] t = refl
in_turn_lem (r ∷ rs) t = turn r rs (coded_first r rs t) (in_turn_lem rs (coded_rest r rs t))

-- ---- a table that goes on

turn_more : (f : Refusal) (rows more : List Row) → in_turn (in_turn f rows) more ≡ in_turn f (rows ++ more)
unfolding in_turn
turn_more f [] more = refl
turn_more f (r ∷ rs) more = turn_more (after f r) rs more

-- its last rows in turn, from the refusal of its first, give its refusal
in_turn_more : (rows more : List Row) → T (coded rows) → T (coded (rows ++ more)) → in_turn (refusal rows) more ≡ refusal (rows ++ more)
in_turn_more rows more t u =
    ap (λ (f : Refusal). in_turn f more) (sym (in_turn_lem rows t)) ∙ turn_more none rows more ∙ in_turn_lem (rows ++ more) u

-- ---- the two tables

-- of the rows on a plan, those on the numbers of regions and sectors: codes 1 and 2
abbrev pub on_sizes : ℕ → ℕ → List Row
on_sizes R S = take 2 (plan_table 0 R S [] [] [] [] [] [] [])

-- those on the lists that have a number for each region: code 3, then 14
abbrev pub on_regions : ℕ → List ℕ → List ℕ → List Row
on_regions R workloads outside = take 4 (drop 2 (plan_table 0 R 0 workloads outside [] [] [] [] []))

-- and those after them: codes 4 to 8, and 13 after 5
abbrev pub from_edges : ℕ → ℕ → ℕ → List ℕ → List ℕ → List ℕ → List ℕ → List ℕ → List Row
from_edges kinds R S edges counts visits constraints colouring =
    drop 6 (plan_table kinds R S [] [] edges counts visits constraints colouring)

-- the rows on a plan, in turn from none, give its refusal
pub plan_in_turn : (kinds R S : ℕ) (workloads outside edges counts visits constraints colouring : List ℕ) → in_turn none (plan_table kinds R S workloads outside edges counts visits constraints colouring) ≡ plan_refusal kinds R S workloads outside edges counts visits constraints colouring
unfolding plan_table plan_refusal
plan_in_turn kinds R S workloads outside edges counts visits constraints colouring =
    in_turn_lem (plan_table kinds R S workloads outside edges counts visits constraints colouring) tt

-- the rows on the moves and the room, in turn from the refusal of the plan, give the call's
pub call_in_turn : (g : Given) → in_turn (plan_refusal most_kind g.R g.S g.workloads g.outside g.edges g.counts g.visits g.constraints g.colouring) (room_table g.R g.S g.constraints g.moves g.rows g.verdicts g.work) ≡ call_refusal g
unfolding plan_table plan_refusal room_table call_table call_refusal
call_in_turn g =
    in_turn_more
    (plan_table most_kind g.R g.S g.workloads g.outside g.edges g.counts g.visits g.constraints g.colouring)
    (room_table g.R g.S g.constraints g.moves g.rows g.verdicts g.work)
    tt
    tt
