-- What a move finds, and that what its function answers is the move's answer.
-- Assumes nothing.
use Rattle.std.specs.Prelude.{ℕ, ◌<◌, ◌^◌, ◌≡◌, refl, List, Bool, true, false, ℤ, ◌-ℤ◌}
use Rattle.std.proofs.Common.{add-zero, arith, sym, ◌∙◌, to_z, of_z}
use Rattle.std.proofs.Math.IntN.{pos}
use Rattle.std.specs.Int.{w64}
use Rattle.terms.specs.declared.Region.{Region}
use Rattle.terms.specs.declared.Sector.{Sector}
use Rattle.terms.specs.declared.Move.{Move}
use Rattle.terms.specs.declared.Move.TheVariants.{Recolour, Exchange, Ask, Refused}
use Rattle.meaning.specs.Plan.{Plan}
use Rattle.meaning.specs.Kinds.{total, region_violation}
use Rattle.meaning.specs.Moves.{recolour, swap, next, change, delta}
use Rattle.meaning.proofs.MoveLaws.{relabelled-none}
use Rattle.meaning.proofs.BoundLaws.{total_bound, region_bound}
use Rattle.meaning.proofs.Deltas.{delta_reads}
use Rattle.engine.specs.declared.Standing.{Standing}
use Rattle.engine.specs.declared.Made.{Made}
use Rattle.engine.specs.State.{Setting, Ready, Within, Answered}
use Rattle.engine.specs.Remade.{Left, Remade, ready_kept, ready_left}
use Rattle.engine.specs.Recolouring.{Recolouring}
use Rattle.engine.specs.Exchanging.{Exchanging}
use Rattle.engine.specs.Asking.{Asking}

-- a move that tries a colouring, and is made or not
pub record Tries (P : Plan) (col : List ℕ) (m : Move) (make : Bool) (after : List ℕ) : Type 0 where
  pub delta : delta P col m ≡ change P col after
  pub made : make ≡ true → next col m ≡ after
  pub probed : make ≡ false → next col m ≡ col

module _ {P : Plan} {col : List ℕ} {m : Move} where
  -- a recolouring tries the new colouring
  pub recolour_tries : {make : Bool} {v : Region} {c : Sector} → m ≡ Recolour make v c → Tries P col m make (recolour col v.0 c.0)
  unfolding delta next
  recolour_tries e = rw e (record { delta = refl; made = λ t. rw t; probed = λ t. rw t })

  -- an exchange tries the colouring after both
  pub exchange_tries : {make : Bool} {a b : Region} → m ≡ Exchange make a b → Tries P col m make (swap col a.0 b.0)
  unfolding delta next
  exchange_tries e = rw e (record { delta = refl; made = λ t. rw t; probed = λ t. rw t })

module _ {P : Plan} {W : ℕ} {start near areas col w ps q : List ℕ} {s : Standing} (k : Setting P W start near areas q) (r : Ready P col w ps s) where
  -- the total as it stands is below 2 ^ 63
  before_small : s.total < 2 ^ 63
  before_small = rw r.standing (omega (arith, total_bound P k.limits col))

  -- an exact delta reads back from its bits
  reads : (m : Move) {z : ℤ} → z ≡ delta P col m → to_z w64 (of_z w64 z) ≡ delta P col m
  reads m e = rw e (delta_reads P k.limits col m)

  module _ {m : Move} where
    module _ (i : Within P m) where
      -- a recolouring finds what it wants
      pub recolour_finds : {make : Bool} {v : Region} {c : Sector} → m ≡ Recolour make v c → Recolouring P W start near areas col w ps q s v.0 c.0
      recolour_finds e = let j = rw e at i in record { setting = k; ready = r; region = j.0; sector = j.1 }

      -- and so does an exchange
      pub exchange_finds : {make : Bool} {a b : Region} → m ≡ Exchange make a b → Exchanging P W start near areas col w ps q s a.0 b.0
      exchange_finds e = let j = rw e at i in record { setting = k; ready = r; first = j.0; second = j.1 }

      -- and a question
      pub ask_finds : {v : Region} → m ≡ Ask v → Asking P W start near areas col w v.0
      ask_finds e =
          record { kept = ready_kept k.limits r; table = k.table; whole = k.whole; region = rw e at i }

    -- where nothing is made, the answer is the delta alone
    still : {col' w' ps' : List ℕ} {z : ℤ} → next col m ≡ col → Left P w col col' w' ps' → z ≡ delta P col m → Answered P col w m col' w' ps' (record { standing = s; delta = to_z w64 (of_z w64 z); relabelled = 0 })
    still n f e =
        record {
          colouring = rw n f.colouring;
          work = rw n f.work;
          prices = rw n f.prices;
          standing = rw n r.standing;
          delta = reads m e;
          relabelled = rw n (sym (relabelled-none P col));
        }

    module _ {make : Bool} {after : List ℕ} (t : Tries P col m make after) where
      module _ {col' w' ps' : List ℕ} {n : Made} (f : Remade P col w after col' w' ps' n) where
        -- the totals before and after what is made can be compared
        pub made_small : (n.standing.total < 2 ^ 63) × (s.total < 2 ^ 63)
        made_small = (rw f.standing (omega (arith, total_bound P k.limits after)), before_small)

        -- a move that is made answers what stands then
        pub made-answered : {z : ℤ} → make ≡ true → z ≡ pos n.standing.total -ℤ pos s.total
            → Answered P col w m col' w' ps' (record { standing = n.standing; delta = to_z w64 (of_z w64 z); relabelled = n.relabelled })
        made-answered y e =
            let x = t.made y in
            record {
              colouring = rw x f.left.colouring;
              work = rw x f.left.work;
              prices = rw x f.left.prices;
              standing = rw x f.standing;
              delta = reads m (e ∙ rw (f.standing, r.standing) (sym t.delta));
              relabelled = rw x f.relabelled;
            }

      module _ {n : ℕ} (p : n ≡ total P after) where
        -- the totals before and after what is probed can be compared
        pub probed_small : (n < 2 ^ 63) × (s.total < 2 ^ 63)
        probed_small = (omega (arith, total_bound P k.limits after), before_small)

        -- a move that is probed answers what it would change
        pub probed_answered : {col' w' ps' : List ℕ} {z : ℤ} → make ≡ false → Left P w col col' w' ps' → z ≡ pos n -ℤ pos s.total
            → Answered P col w m col' w' ps' (record { standing = s; delta = to_z w64 (of_z w64 z); relabelled = 0 })
        probed_answered y f e = still (t.probed y) f (e ∙ rw (p, r.standing) (sym t.delta))

    module _ {v : Region} (e : m ≡ Ask v) {n : ℕ} (p : n ≡ region_violation P col v.0) where
      -- a region's violation is below 2 ^ 63
      pub asked_small : (n < 2 ^ 63) × (0 < 2 ^ 63)
      asked_small = (omega (arith, region_bound P k.limits col v.0), omega arith)

      -- a question answers the region's violation
      pub asked-answered : {z : ℤ} → z ≡ pos n -ℤ pos 0 → Answered P col w m col w ps (record { standing = s; delta = to_z w64 (of_z w64 z); relabelled = 0 })
      unfolding delta next
      asked-answered q = still (rw e) (ready_left k.limits r refl) (q ∙ rw (e, p, add-zero))

    -- a refused move answers nothing
    pub refused-answered : {x : ℕ} → m ≡ Refused x → Answered P col w m col w ps (record { standing = s; delta = pos 0; relabelled = 0 })
    unfolding delta next
    refused-answered e = still {z = pos 0} (rw e) (ready_left k.limits r refl) (rw e)
