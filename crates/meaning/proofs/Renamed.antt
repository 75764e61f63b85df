-- Document 02, C-18: what a plan, its verdicts and its moves mean goes by no sector's name.
-- Assumes nothing.
use Rattle.std.specs.Prelude.{ℕ, ◌-◌, ◌≡◌}
use Rattle.std.proofs.Math.Path.{refl, sym, ap}
use Rattle.std.proofs.Common.{◌∙◌}
use Rattle.std.proofs.Math.Bool.{true, false}
use Rattle.std.proofs.lemmas.Bool.{false≢true}
use mathlib.Core.List.{List, [], ◌∷◌, map}
use Rattle.std.proofs.Math.IntN.{pos}
use Rattle.lists.specs.Sums.{In, at}
use Rattle.lists.specs.SumLaws.{sum-all}
use Rattle.lists.specs.Counts.{count-all}
use Rattle.lists.specs.Places.{map-set}
use Rattle.lists.specs.Onto.{Onto}
use Rattle.terms.specs.Distance.{distance}
use Rattle.terms.specs.Moves.{status}
use Rattle.terms.specs.declared.Move.{Move}
use Rattle.terms.specs.declared.Move.TheVariants.{Recolour, Exchange, Ask, Refused}
use Rattle.meaning.specs.Plan.{Constraint, Plan}
use Rattle.meaning.specs.Joined.{labels}
use Rattle.meaning.specs.Kinds.{ncc, load, border, deviation, bounded, violation, holds, total, off_balance, part_of, region_violation}
use Rattle.meaning.specs.Moves.{recolour, swap, next, delta, row, rows, last, verdict, verdicts_of, verdicts}
use Rattle.meaning.proofs.Together.{SameRegions, labels-together, border-together, dwelling-together, border_of_together, dwelling_of_together, ncc-together, load-same-regions, relabelled-together}
use Rattle.meaning.proofs.Matched.{Matched, over-loads, connected_matched}
use Rattle.meaning.specs.Names.{Renaming, name, renamed, renamed_move}
use Rattle.meaning.proofs.NameLaws.{name-sector, name-eqb, at_renamed, renamed-together}

module _ (P : Plan) {p : ℕ → ℕ} (r : Renaming P.S p) where
  -- a renaming goes one to one onto 1..S
  renaming_onto : Onto P.S P.S (λ c. true) p
  renaming_onto = record { within = λ c i e. r.within c i; apart = λ c d i j s t. r.apart c d i j; size = count-all P.S }

  -- ---- a colouring

  module _ (col : List ℕ) where
    -- the colouring in the new names
    abbrev new : List ℕ
    new = renamed P.S p col

    -- a sector has the regions that it has by its new name
    same-regions : (c : ℕ) → SameRegions P.R col c new (name P.S p c)
    same-regions c = record { region = λ u i. rw (at_renamed P.S p col u, name-eqb r (at col u) c) }

    -- so the sectors correspond, and none is left out
    renamed_matched : Matched P P.S (λ c. true) p col new
    renamed_matched =
        record {
          together = renamed-together r col;
          onto = renaming_onto;
          regions = λ c i e. rw (← name-sector P.S p i) (same-regions c);
          empty = λ c i e. absurd (false≢true (sym e));
        }

    -- labels are the same
    pub labels-renamed : labels P.edges new ≡ labels P.edges col
    labels-renamed = sym (labels-together (renamed-together r col) P.edges)

    -- component counts move with their names
    pub ncc-renamed : (c : ℕ) → In P.S c → ncc P new (p c) ≡ ncc P col c
    ncc-renamed c i = rw (← name-sector P.S p i) (sym (ncc-together (renamed-together r col) P (same-regions c)))

    -- and so do workload sums
    pub load-renamed : (c : ℕ) → In P.S c → load P new (p c) ≡ load P col c
    load-renamed c i = rw (← name-sector P.S p i) (sym (load-same-regions P (same-regions c)))

    -- T is the same
    pub border-renamed : border P new ≡ border P col
    border-renamed = sym (border-together (renamed-together r col) P)

    -- the violation of each constraint is the same
    pub violation-renamed : (k : Constraint) → violation P new k ≡ violation P col k
    unfolding violation deviation bounded
    violation-renamed k =
        rw (
          connected_matched renamed_matched k,
          border-renamed,
          over-loads renamed_matched (off_balance P) (λ c i e. absurd (false≢true (sym e))),
          over-loads renamed_matched (λ x. distance k.relation x k.limit) (λ c i e. absurd (false≢true (sym e))),
          sym (dwelling-together (renamed-together r col) P k),
        )

    -- so the total is the same
    pub total-renamed : total P new ≡ total P col
    unfolding total
    total-renamed = sum-all P.constraints _ _ (λ k. rw (violation-renamed k))

    -- the verdicts on some constraints are the same
    verdicts_of_renamed : (ks : List Constraint) → verdicts_of P new ks ≡ verdicts_of P col ks
    unfolding verdicts_of verdict holds
    verdicts_of_renamed [] = refl
    verdicts_of_renamed (k ∷ ks) = rw (violation-renamed k, verdicts_of_renamed ks)

    -- so those on all are
    pub verdicts-renamed : verdicts P new ≡ verdicts P col
    verdicts-renamed = verdicts_of_renamed P.constraints

    -- a region's violation is the same
    pub region_renamed : (v : ℕ) → region_violation P new v ≡ region_violation P col v
    unfolding region_violation part_of
    region_renamed v =
        let s = same-regions (at col v) in
        let t = renamed-together r col in
        sum-all P.constraints _ _
        (λ k. rw (
          at_renamed P.S p col v,
          ← ncc-together t P s,
          ← load-same-regions P s,
          ← border_of_together t P v,
          ← dwelling_of_together t P v k,
        ))

    -- a recolouring by the new name leads to the new names of where the recolouring leads
    recolour-renamed : (v c : ℕ) → recolour new v (name P.S p c) ≡ renamed P.S p (recolour col v c)
    recolour-renamed v c = sym (map-set (name P.S p) col (v - 1) c)

  -- ---- a move

  -- an exchange does so, too
  swap-renamed : (col : List ℕ) (a b : ℕ) → swap (renamed P.S p col) a b ≡ renamed P.S p (swap col a b)
  swap-renamed col a b =
      rw (at_renamed P.S p col a, at_renamed P.S p col b, recolour-renamed col a (at col b)) (recolour-renamed (recolour col a (at col b)) b (at col a))

  -- the colouring after a move is that after the move, in the new names
  next-renamed : (col : List ℕ) (m : Move) → next (renamed P.S p col) (renamed_move P.S p m) ≡ renamed P.S p (next col m)
  unfolding next
  next-renamed col (Recolour true v c) = recolour-renamed col v.0 c.0
  next-renamed col (Recolour false v c) = refl
  next-renamed col (Exchange true a b) = swap-renamed col a.0 b.0
  next-renamed col (Exchange false a b) = refl
  next-renamed col (Ask v) = refl
  next-renamed col (Refused s) = refl

  -- the delta of a move is the same
  delta-renamed : (col : List ℕ) (m : Move) → delta P (renamed P.S p col) (renamed_move P.S p m) ≡ delta P col m
  unfolding delta
  delta-renamed col (Recolour make v c) =
      rw (recolour-renamed col v.0 c.0, total-renamed (recolour col v.0 c.0), total-renamed col)
  delta-renamed col (Exchange make a b) = rw (swap-renamed col a.0 b.0, total-renamed (swap col a.0 b.0), total-renamed col)
  delta-renamed col (Ask v) = ap pos (region_renamed col v.0)
  delta-renamed col (Refused s) = refl

  -- its status is
  status-renamed : (m : Move) → status (renamed_move P.S p m) ≡ status m
  status-renamed (Recolour make v c) = refl
  status-renamed (Exchange make a b) = refl
  status-renamed (Ask v) = refl
  status-renamed (Refused s) = refl

  -- so its whole row is
  row-renamed : (col : List ℕ) (m : Move) → row P (renamed P.S p col) (renamed_move P.S p m) ≡ row P col m
  unfolding row
  row-renamed col m =
      rw (
        status-renamed m,
        delta-renamed col m,
        next-renamed col m,
        total-renamed (next col m),
        relabelled-together (renamed-together r col) (renamed-together r (next col m)) P,
      )

  -- ---- a list of moves

  -- the rows are the same
  pub rows-renamed : (col : List ℕ) (ms : List Move) → rows P (renamed P.S p col) (map (renamed_move P.S p) ms) ≡ rows P col ms
  unfolding rows
  rows-renamed col [] = refl
  rows-renamed col (m ∷ ms) = rw (row-renamed col m, next-renamed col m, rows-renamed (next col m) ms)

  -- the last colouring is the last colouring, in the new names
  pub last-renamed : (col : List ℕ) (ms : List Move) → last (renamed P.S p col) (map (renamed_move P.S p) ms) ≡ renamed P.S p (last col ms)
  unfolding last
  last-renamed col [] = refl
  last-renamed col (m ∷ ms) = ap (λ l. last l (map (renamed_move P.S p) ms)) (next-renamed col m) ∙ last-renamed (next col m) ms
