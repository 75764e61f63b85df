-- What stands between two moves: the lent memory and the numbers that are kept up are those of the colouring.
-- Assumes nothing.
use Rattle.std.specs.Prelude.{ℕ, ◌+◌, ◌*◌, ◌≤◌, ◌<◌, ◌≡◌, List, ◌++◌, length, take, drop}
use Rattle.lists.specs.Sums.{In}
use Rattle.terms.specs.declared.Move.{Move}
use Rattle.terms.specs.declared.Move.TheVariants.{Recolour, Exchange, Ask, Refused}
use Rattle.meaning.specs.Plan.{Plan, Limits, Coloured}
use Rattle.meaning.specs.Joined.{labels}
use Rattle.meaning.specs.Kinds.{whole, counts, loads, total}
use Rattle.meaning.specs.Moves.{next, delta, relabelled}
use Rattle.meaning.specs.Prices.{prices}
use Rattle.judge.specs.Figures.{figures_of}
use Rattle.neighbours.specs.Table.{Table}
use Rattle.engine.specs.declared.Standing.{Standing}
use Rattle.engine.specs.declared.Stepped.{Stepped}

-- the figures and the total of a colouring
abbrev pub standing_of : Plan → List ℕ → Standing
standing_of P col = record { figures = figures_of P col; total = total P col }

-- the front of the work memory: labels, component counts, workload sums
unfoldable pub memory : Plan → List ℕ → List ℕ
memory P col = labels P.edges col ++ counts P col ++ loads P col

-- how many numbers that is
abbrev pub memory_length : Plan → ℕ
memory_length P = P.R + 2 * P.S

-- what no move changes: the plan is within its limits, its neighbours are gathered, the whole workload is known, and the queue is long enough
pub record Setting (P : Plan) (W : ℕ) (start near areas q : List ℕ) : Type 0 where
  pub limits : Limits P
  pub table : Table P.R P.edges start near areas
  pub whole : W ≡ whole P
  pub queue : P.R < length q

-- what a move finds, and leaves: all is that of the colouring
pub record Ready (P : Plan) (col w ps : List ℕ) (s : Standing) : Type 0 where
  pub coloured : Coloured P col
  pub room : memory_length P ≤ length w
  pub work : take (memory_length P) w ≡ memory P col
  pub prices : ps ≡ prices P col
  pub standing : s ≡ standing_of P col

-- what the first judgement finds: a colouring, room for the front of the work memory, and a place for each sector's price
pub record Opening (P : Plan) (col w ps : List ℕ) : Type 0 where
  pub coloured : Coloured P col
  pub room : memory_length P ≤ length w
  pub prices : length ps ≡ P.S

-- what it leaves
pub record Opened (P : Plan) (col w col' w' ps' : List ℕ) (s : Standing) : Type 0 where
  pub colouring : col' ≡ col
  pub work : w' ≡ memory P col ++ drop (memory_length P) w
  pub prices : ps' ≡ prices P col
  pub standing : s ≡ standing_of P col

-- a move of the plan: its regions are of 1..R and its sector of 1..S
abbrev pub Within : Plan → Move → Type 0
Within P (Recolour make v c) = In P.R v.0 × In P.S c.0
Within P (Exchange make a b) = In P.R a.0 × In P.R b.0
Within P (Ask v) = In P.R v.0
Within P (Refused s) = s < 64

-- what a move does
pub record Answered (P : Plan) (col w : List ℕ) (m : Move) (col' w' ps' : List ℕ) (r : Stepped) : Type 0 where
  pub colouring : col' ≡ next col m
  pub work : w' ≡ memory P (next col m) ++ drop (memory_length P) w
  pub prices : ps' ≡ prices P (next col m)
  pub standing : r.standing ≡ standing_of P (next col m)
  pub delta : r.delta ≡ delta P col m
  pub relabelled : r.relabelled ≡ relabelled P col (next col m)
