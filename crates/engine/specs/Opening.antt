-- How the front of the work memory is laid out part by part, and how a colouring is judged by it.
-- Assumes nothing.
use Rattle.std.specs.Prelude.{ℕ, ◌+◌, ◌-◌, ◌≤◌, ◌<◌, ◌^◌, ◌≡◌, List, ◌++◌, map, length}
use Rattle.std.proofs.Common.{arith, sym, ◌∙◌, append_assoc, drop-drop}
use Rattle.std.proofs.Math.Path.{ap}
use Rattle.std.proofs.Math.ListN.{take, drop}
use Rattle.lists.specs.Sums.{at, bit, sum}
use Rattle.lists.specs.Few.{Few}
use Rattle.meaning.specs.Plan.{Plan, Limits, Coloured, constraints_of, most_regions, most_sectors, most_area}
use Rattle.meaning.specs.Joined.{labels, leads}
use Rattle.meaning.specs.Kinds.{crosses, area_of, border, counts, loads}
use Rattle.meaning.proofs.Components.{loads-length}
use Rattle.meaning.specs.Bounds.{most_load}
use Rattle.meaning.specs.Prices.{price, prices, limit_total, dwell_total}
use Rattle.meaning.proofs.PriceLaws.{prices-total, limit_total_bound}
use Rattle.kinds.specs.Constraints.{Paying}
use Rattle.neighbours.specs.Net.{Net, table_net}
use Rattle.judge.specs.declared.Figures.{Figures}
use Rattle.judge.specs.Figures.{figures_of, figures_by, total_by, tally}
use Rattle.judge.specs.Small.{SmallEdges, SmallTallies, SmallFigures, outside_small, edges_small, loads_small, tallies_small, figures_small}
use Rattle.judge.specs.Tallies.{counts_by, loads_by}
use Rattle.judge.specs.FigureLaws.{border_by, figures_by_lem, prices_by, total_by_lem}
use Rattle.engine.specs.State.{memory, memory_length, Setting, Opening, Opened}
use Rattle.engine.specs.Sorted.{Sorted, sorted_paying}
use Rattle.engine.specs.Memory.{Kept, memory_kept, kept-counts, kept-loads}

-- ---- laying out

-- what laying out finds: a colouring, and room for the front of the work memory
pub record Blank (P : Plan) (start near col w q : List ℕ) : Type 0 where
  pub limits : Limits P
  pub net : Net P.R P.edges start near
  pub coloured : Coloured P col
  pub room : memory_length P ≤ length w
  pub queue : P.R < length q

-- labels, component counts and workload sums that are those of the colouring, put down in a row, make the front of the work memory
pub laid_out : {P : Plan} {start near col w q : List ℕ} → Blank P start near col w q → {col' ls cs xs sums rest : List ℕ} {m n : ℕ} → col' ≡ col
    → ls ≡ labels P.edges col → m ≡ P.S → cs ≡ tally m col' (λ u. bit (leads ls u)) (length col') → n ≡ P.S → xs ≡ tally n col' (at P.workloads) (length col')
    → sums ≡ drop P.R w → rest ≡ drop P.S sums
    → ls ++ (cs ++ (xs ++ drop P.S rest)) ≡ memory P col ++ drop (memory_length P) w
unfolding memory
laid_out {P} {col = col} {w} b {ls = ls} {cs} {xs} same el em ec en ex es er =
    let components : cs ≡ counts P col = ec ∙ rw (em, same, el) (counts_by P col b.coloured) in
    let workloads : xs ≡ loads P col = ex ∙ rw (en, same) (loads_by P col b.coloured) in
    let e : P.R + P.S + P.S ≡ memory_length P = omega arith in
    rw (er, es, components, workloads, el, append_assoc (labels P.edges col ++ counts P col) (loads P col) (drop (memory_length P) w), append_assoc (labels P.edges col) (counts P col) (loads P col ++ drop (memory_length P) w))
    (ap (λ r. labels P.edges col ++ (counts P col ++ (loads P col ++ r))) (ap (drop P.S) (drop-drop P.S P.R w) ∙ drop-drop P.S (P.R + P.S) w ∙ ap (λ n. drop n w) e))

-- ---- judging

-- the S numbers from index R on
abbrev pub first_part : ℕ → ℕ → List ℕ → List ℕ
first_part R S w = take (R + S - R) (drop R w)

-- the S numbers after them
abbrev pub second_part : ℕ → ℕ → List ℕ → List ℕ
second_part R S w = take (R + S + S - (R + S)) (drop (R + S) w)

module _ {P : Plan} {col w : List ℕ} (k : Kept P col w) where
  -- the component counts are read
  counts-read : first_part P.R P.S w ≡ counts P col
  counts-read = let e : P.R + P.S - P.R ≡ P.S = omega arith in rw e (kept-counts k)

  -- and the workload sums
  pub loads-read : second_part P.R P.S w ≡ loads P col
  loads-read = let e : P.R + P.S + P.S - (P.R + P.S) ≡ P.S = omega arith in rw e (kept-loads k)

module _ {P : Plan} {W : ℕ} {start near areas col w ps q : List ℕ} (s : Setting P W start near areas q) (o : Opening P col w ps) where
  -- the front can be laid out
  pub opening_blank : Blank P start near col w q
  opening_blank =
      record { limits = s.limits; net = table_net s.table; coloured = o.coloured; room = o.room; queue = s.queue }

  module _ {col' : List ℕ} (k : col' ≡ col) where
    -- the faces to the outside and the edges are few, and the edges' ends are regions
    pub opening_faces : Few most_regions most_area P.outside × SmallEdges (length col') P.edges
    opening_faces = (outside_small P s.limits, rw (k, o.coloured.size) (edges_small P s.limits))

    -- they make the border
    opening_border : {t : ℕ} → t ≡ area_of P.edges (crosses col') + sum P.outside (λ a. a) → t ≡ border P col
    opening_border e = e ∙ rw k (border_by P col s.limits.outside)

  module _ {w' : List ℕ} (m : w' ≡ memory P col ++ drop (memory_length P) w) where
    -- the front is that of the colouring
    kept : Kept P col w'
    kept = memory_kept s.limits o.coloured w m o.room

    -- what each sector has is small
    pub opening_tallies : SmallTallies P.S W (first_part P.R P.S w') (second_part P.R P.S w')
    opening_tallies = rw (counts-read kept, loads-read kept, s.whole) (tallies_small P s.limits col)

    module _ {sh li : List ℕ} (r : Sorted P sh li) where
      -- what each sector pays can be put down
      pub opening_paying : Paying li × (Few most_sectors most_load (second_part P.R P.S w') × (length ps ≡ length (second_part P.R P.S w')))
      opening_paying =
          (sorted_paying s.limits 4 4 r.limited, rw (loads-read kept) (loads_small P s.limits col, o.prices ∙ sym (loads-length P col)))

      module _ {ps' : List ℕ} (p : ps' ≡ map (price (constraints_of li)) (second_part P.R P.S w')) where
        -- it is that of the colouring
        opening_prices : ps' ≡ prices P col
        opening_prices = p ∙ rw (r.limited, loads-read kept) (prices_by P col)

        -- summed it is what kind 4 adds to the total
        opening_limit : sum ps' (λ n. n) ≡ limit_total P col
        opening_limit = rw opening_prices (sym (prices-total P col))

        -- which fits
        pub opening_room : sum ps' (λ n. n) < 2 ^ 64
        opening_room = omega (arith, opening_limit, limit_total_bound s.limits col)

        module _ {col' : List ℕ} (k : col' ≡ col) {t b d : ℕ} (e : t ≡ area_of P.edges (crosses col') + sum P.outside (λ a. a)) (g : b ≡ sum ps' (λ n. n)) (h : d ≡ dwell_total P col') {F : Figures} (f : F ≡ figures_by P.S W (first_part P.R P.S w') (second_part P.R P.S w') t b d) where
          -- the figures are those of the colouring
          opening_figures : F ≡ figures_of P col
          opening_figures = f ∙ rw (counts-read kept, loads-read kept, s.whole, opening_border k e, g, opening_limit, h, k) (figures_by_lem P col o.coloured)

          -- the total can be made
          pub opening_small : SmallFigures F × Paying sh
          opening_small = (rw opening_figures (figures_small P s.limits col), sorted_paying s.limits 1 3 r.shared)

          -- all is that of the colouring
          pub opening_opened : {x : ℕ} → x ≡ total_by F (constraints_of sh) → Opened P col w col' w' ps' (record { figures = F; total = x })
          opening_opened q =
              record {
                colouring = k;
                work = m;
                prices = opening_prices;
                standing = rw (q, opening_figures, r.shared, total_by_lem P col);
              }
