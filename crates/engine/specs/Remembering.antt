-- What is remembered of pieces from one move to the next.
-- Assumes nothing.
use Rattle.std.specs.Prelude.{ℕ, ◌+◌, ◌-◌, ◌<◌, ◌≡◌, List, Bool, true, false, set}
use Rattle.std.proofs.Math.Decide.{ℕ_discrete}
use Rattle.lists.specs.Sums.{at}
use Rattle.terms.specs.declared.Region.{Region}
use Rattle.terms.specs.declared.Sector.{Sector}
use Rattle.terms.specs.declared.Move.{Move}
use Rattle.terms.specs.declared.Move.TheVariants.{Recolour, Exchange, Ask, Refused}
use Rattle.meaning.specs.Plan.{Edge, Plan, most_moves}
use Rattle.meaning.specs.Paths.{limits_ends}
use Rattle.meaning.specs.Moves.{swap, next}
use Rattle.meaning.proofs.MoveLaws.{exchange-alike}
use Rattle.search.specs.Confined.{Confined, confined_none, confined_recolour, confined_swap}
use Rattle.search.specs.Remembered.{Remembered, remembered_later, remembered_raise}
use Rattle.engine.specs.declared.Standing.{Standing}
use Rattle.engine.specs.Recolouring.{Recolouring}
use Rattle.engine.specs.Exchanging.{Exchanging}

module _ {P : Plan} {W : ℕ} {start near areas col w ps q : List ℕ} {s : Standing} {clock : ℕ} {known known' : List ℕ} {m : Move} {make : Bool} where
  -- after a recolouring that is made, where the versions of the region's old sector and its new are raised
  pub remembered_recolour : {v : Region} {c : Sector} → Recolouring P W start near areas col w ps q s v.0 c.0 → m ≡ Recolour make v c → make ≡ true
      → Remembered P.R P.S P.edges col clock known → clock < most_moves → known' ≡ set (set known (P.R + at col v.0 - 1) (clock + 1)) (P.R + c.0 - 1) (clock + 1)
      → Remembered P.R P.S P.edges (next col m) (clock + 1) known'
  unfolding next
  remembered_recolour {v} k e y r h raised =
      let coloured = k.ready.coloured in
      let confined = confined_recolour coloured.size coloured.sector k.region k.sector in
      rw (e, y, raised) (remembered_raise r confined (limits_ends P k.setting.limits) (coloured.sector v.0 k.region) k.sector h)

  -- after an exchange that is made, where the versions of both sectors are raised
  pub remembered_exchange : {a b : Region} → Exchanging P W start near areas col w ps q s a.0 b.0 → m ≡ Exchange make a b → make ≡ true
      → Remembered P.R P.S P.edges col clock known → clock < most_moves → known' ≡ set (set known (P.R + at col a.0 - 1) (clock + 1)) (P.R + at col b.0 - 1) (clock + 1)
      → Remembered P.R P.S P.edges (next col m) (clock + 1) known'
  unfolding next
  remembered_exchange {a} {b} k e y r h raised =
      let sector = k.ready.coloured.sector in
      let confined = go (ℕ_discrete (at col a.0) (at col b.0)) in
      rw (e, y, raised) (remembered_raise r confined (limits_ends P k.setting.limits) (sector a.0 k.first) (sector b.0 k.second) h)
    where
      go : Dec (at col a.0 ≡ at col b.0) → Confined P.R P.S col (swap col a.0 b.0) (at col a.0) (at col b.0)
      go (yes q) = rw (exchange-alike col a.0 b.0 q) (confined_none k.ready.coloured.size k.ready.coloured.sector)
      go (no n) = confined_swap k.ready.coloured.size k.ready.coloured.sector k.first k.second n

module _ {R S : ℕ} {edges : List Edge} {col : List ℕ} {clock : ℕ} {known : List ℕ} (r : Remembered R S edges col clock known) (h : clock < most_moves) {m : Move} where
  -- after a recolouring that is probed, which leaves the colouring
  pub remembered_recolour_probed : {make : Bool} {v : Region} {c : Sector} → m ≡ Recolour make v c → make ≡ false → Remembered R S edges (next col m) (clock + 1) known
  unfolding next
  remembered_recolour_probed e y = rw (e, y) (remembered_later r h)

  -- after such an exchange
  pub remembered_exchange_probed : {make : Bool} {a b : Region} → m ≡ Exchange make a b → make ≡ false → Remembered R S edges (next col m) (clock + 1) known
  unfolding next
  remembered_exchange_probed e y = rw (e, y) (remembered_later r h)

  -- after a question
  pub remembered_ask : {v : Region} → m ≡ Ask v → Remembered R S edges (next col m) (clock + 1) known
  unfolding next
  remembered_ask e = rw e (remembered_later r h)

  -- and after a refused move
  pub remembered_refused : {x : ℕ} → m ≡ Refused x → Remembered R S edges (next col m) (clock + 1) known
  unfolding next
  remembered_refused e = rw e (remembered_later r h)
