-- The figures and the total follow a change: afterwards they are those of the new colouring.
-- Assumes nothing.
use Rattle.std.specs.Prelude.{ℕ, ◌+◌, ◌-◌, ◌*◌, ◌≤◌, ◌<◌, ◌^◌, ◌≡◌, List}
use Rattle.std.proofs.Math.Nat.{mul-le-mul}
use Rattle.std.proofs.Common.{arith}
use Rattle.lists.specs.Sums.{sum}
use Rattle.terms.specs.Distance.{gap}
use Rattle.meaning.specs.Plan.{Plan, Limits, Coloured, most_regions, most_sectors}
use Rattle.meaning.specs.Kinds.{whole, counts, loads, deviation, total}
use Rattle.meaning.proofs.Components.{counts-length, counts-at, loads-length, loads-at, ncc-sum}
use Rattle.meaning.specs.Bounds.{most_load}
use Rattle.meaning.proofs.BoundLaws.{ncc_bound, load_bound, whole_bound, border_bound}
use Rattle.meaning.specs.Prices.{shared, prices, most_sector_price}
use Rattle.meaning.proofs.PriceLaws.{prices-total, prices-length, prices-at, sector-price_bound, prices_few, dwell_total_bound}
use Rattle.judge.specs.Figures.{figures_of, total_by}
use Rattle.judge.specs.FigureLaws.{total_by_lem}
use Rattle.judge.specs.Small.{SmallFigures, most_gap, tallies_small, figures_small}
use Rattle.change.specs.declared.Change.{Change}
use Rattle.change.specs.Shift.{each, figures_after}
use Rattle.change.specs.Small.{AtMost, Fits, Shifting}
use Rattle.change.specs.TwoTerms.{Shifts, shifts_set, shifts_sum, shifts_fit}
use Rattle.change.specs.Changed.{Changed, swung_fits, swung_swing, changed_counts, changed_loads, changed_prices}

module _ {P : Plan} {col col' : List ℕ} {own d : ℕ} {c : Change} (l : Limits P) (k : Coloured P col) (ch : Changed P col col' own d c) where
  -- the sums over the components of the sectors
  counts-shift : Shifts (counts P col) (counts P col') c.before.components c.after.components
  counts-shift =
      rw (ch.before, ch.after, ← counts-at P col own ch.old, ← counts-at P col d ch.new)
      (shifts_set (counts P col) (counts-length P col) ch.old ch.new ch.other (changed_counts ch))

  -- the sums over their workloads
  loads-shift : Shifts (loads P col) (loads P col') c.before.workloads c.after.workloads
  loads-shift =
      rw (ch.before, ch.after, ← loads-at P col own ch.old, ← loads-at P col d ch.new)
      (shifts_set (loads P col) (loads-length P col) ch.old ch.new ch.other (changed_loads ch))

  -- the sums over what they pay
  prices-shift : Shifts (prices P col) (prices P col') c.before.prices c.after.prices
  prices-shift =
      rw (ch.before, ch.after, ← prices-at P col own ch.old, ← prices-at P col d ch.new)
      (shifts_set (prices P col) (prices-length P col) ch.old ch.new ch.other (changed_prices ch))

  -- the workloads of the two sectors are small before the change
  before_small : AtMost most_load c.before.workloads
  before_small = rw ch.before (record { old = load_bound P l col own; new = load_bound P l col d })

  -- and after it
  after_small : AtMost most_load c.after.workloads
  after_small = rw ch.after (record { old = load_bound P l col' own; new = load_bound P l col' d })

  -- a sum over the components can follow the change, where no term is large
  counts_fit : (f : ℕ → ℕ) → ((n : ℕ) → n ≤ most_regions → f n ≤ most_regions) → Fits (sum (counts P col) f) (each f c.before.components) (each f c.after.components)
  counts_fit f h =
      shifts_fit counts-shift f (tallies_small P l col).count
      (rw ch.after (record { old = ncc_bound P l col' own; new = ncc_bound P l col' d })) h (omega arith)

  -- a sum over the workloads can follow it, where no term is above C
  loads_fit : (f : ℕ → ℕ) {C : ℕ} → ((x : ℕ) → x ≤ most_load → f x ≤ C) → (most_sectors + 2) * C < 2 ^ 64 → Fits (sum (loads P col) f) (each f c.before.workloads) (each f c.after.workloads)
  loads_fit f h room = shifts_fit loads-shift f (tallies_small P l col).load after_small h room

  -- so can the sum of what the sectors pay
  prices_fit : Fits (sum (prices P col) (λ n. n)) c.before.prices c.after.prices
  prices_fit =
      shifts_fit prices-shift (λ n. n) {C = most_sector_price} (prices_few l col)
      (rw ch.after (record { old = sector-price_bound l col' own; new = sector-price_bound l col' d })) (λ n h. h) (omega arith)

  -- the figures can follow the change
  pub shifting : Shifting P.S (whole P) (figures_of P col) c
  unfolding figures_of deviation
  shifting =
      record {
        components = rw (← ncc-sum P col k) (counts_fit (λ n. n) (λ n h. h));
        excess = counts_fit (λ n. n - 1) (λ n h. omega arith);
        border = swung_fits ch.border (border_bound P l col) (omega arith);
        sectors = l.S.high;
        before = before_small;
        after = after_small;
        deviation = loads_fit (λ x. gap (P.S * x) (whole P)) {C = most_gap} (λ x h. omega (arith, mul-le-mul l.S.high h, whole_bound P l)) (omega arith);
        bounded = rw (prices-total P col) prices_fit;
        dwell = swung_fits ch.dwell (dwell_total_bound l col) (omega arith);
      }

  -- the figures after the change are those of the new colouring
  pub figures_after_lem : figures_after P.S (whole P) (figures_of P col) c ≡ figures_of P col'
  unfolding figures_after figures_of deviation
  figures_after_lem =
      rw (
        ← ncc-sum P col k,
        ← ncc-sum P col' ch.coloured,
        shifts_sum counts-shift (λ n. n),
        shifts_sum counts-shift (λ n. n - 1),
        shifts_sum loads-shift (λ x. gap (P.S * x) (whole P)),
        prices-total P col,
        prices-total P col',
        shifts_sum prices-shift (λ n. n),
        swung_swing ch.border,
        swung_swing ch.dwell,
      )

  -- they are as small as those of a colouring
  pub figures_after_small : SmallFigures (figures_after P.S (whole P) (figures_of P col) c)
  figures_after_small = rw figures_after_lem (figures_small P l col')

  -- and make the total of the new colouring
  pub total-after : total_by (figures_after P.S (whole P) (figures_of P col) c) (shared P.constraints) ≡ total P col'
  total-after = rw figures_after_lem (total_by_lem P col')
