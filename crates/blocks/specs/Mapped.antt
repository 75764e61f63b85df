-- Blocks that differ in their payloads alone: each byte of the one is f of that byte of the other.
-- Assumes nothing.
use Rattle.std.specs.Prelude.{ℕ, zero, suc, ◌+◌, ◌-◌, ◌*◌, ◌≤◌, ◌<◌, min, ◌≡◌, refl, ◌≢◌, Bool, cond, List, [], ◌∷◌, ◌++◌, map, eqb, length, get_or, take, drop}
use Rattle.std.proofs.Common.{add-zero, arith, sym, ap, ap₂, ◌∙◌, map-id, append_assoc, eq-eqb, ne_eqb, length-drop, take-append-drop, take_at, drop_at, drop-cons, drop-drop, length-take-le}
use Rattle.std.proofs.Math.Decide.{ℕ_discrete}
use Rattle.std.proofs.lemmas.List.{map-append, length-map}
use Rattle.lists.specs.Sums.{Every}
use Rattle.packing.specs.Part.{part, part-take}
use Rattle.packing.specs.Numbers.{Fits, pack, unpack, rep, length_fits, length-pack}
use Rattle.blocks.specs.declared.Due.{Due}
use Rattle.blocks.specs.Fletcher.{check}
use Rattle.blocks.specs.Same.{same, eq-same}
use Rattle.blocks.specs.Block.{block_length, letters_length, kind_at, zero_at, number_at, used_at, header_length, most_payload, checked_length, block_of, payload_of, wrong}
use Rattle.blocks.specs.BlockLaws.{headed_header, Right, right_of, block_payload, length_block, block_right}
use Rattle.blocks.specs.Section.{due, no_due, dues_from, section_dues, used_all}
use Rattle.blocks.specs.Sheet.{block_at, sheet_from, stream_from, or_later, fault_from, fault_within}
use Rattle.blocks.specs.SheetLaws.{block_drop}
use Rattle.blocks.specs.Layout.{Layout, section_of, all_dues, blocks_in, written_from, numbers_at, read_from, AllFit, Laid, used_own, next-drop}

-- ---- definitions

-- the check of a block is right
abbrev pub check_right : List ℕ → Bool
check_right block = same (part checked_length block_length block) (check (part 0 checked_length block))

-- block b is block a with f of each byte of the used payload; the check is right in both or wrong in both
pub record Mapped (f : ℕ → ℕ) (used : ℕ) (a b : List ℕ) : Type 0 where
  pub header : part 0 header_length b ≡ part 0 header_length a
  pub payload : payload_of used b ≡ map f (payload_of used a)
  pub beyond : part (header_length + used) checked_length b ≡ part (header_length + used) checked_length a
  pub check : check_right b ≡ check_right a

-- a block of this kind is so; a block of another kind is the same bytes
pub record MappedDue (f : ℕ → ℕ) (kind : ℕ) (d : Due) (a b : List ℕ) : Type 0 where
  pub own : d.kind ≡ kind → Mapped f d.used a b
  pub other : d.kind ≢ kind → b ≡ a

-- each of the blocks that are due
abbrev pub MappedFrom : (ℕ → ℕ) → ℕ → List Due → List ℕ → List ℕ → Type 0
MappedFrom f kind [] a b = Unit {0}
MappedFrom f kind (d ∷ ds) a b = MappedDue f kind d (take block_length a) (take block_length b) × MappedFrom f kind ds (drop block_length a) (drop block_length b)

-- what is done to numbers of kind k: f if that is this kind, and else nothing
unfoldable pub on_kind : (ℕ → ℕ) → ℕ → ℕ → ℕ → ℕ
on_kind f kind k = cond (eqb k kind) f (λ x. x)

-- it is done to the numbers of each layout
abbrev pub mapped_all : (ℕ → ℕ) → ℕ → List Layout → List (List ℕ) → List (List ℕ)
mapped_all f kind [] xss = []
mapped_all f kind (l ∷ ls) [] = []
mapped_all f kind (l ∷ ls) (xs ∷ xss) = map (on_kind f kind l.kind) xs ∷ mapped_all f kind ls xss

-- if a layout is of this kind, its numbers have one byte each
abbrev pub Single : ℕ → Layout → Type 0
Single kind l = l.kind ≡ kind → l.widths ≡ 1 ∷ []

-- ---- what is wrong

-- the same is wrong with both
wrong_mapped : {f : ℕ → ℕ} {used : ℕ} {a b : List ℕ} → Mapped f used a b → (letters : List ℕ) (kind number : ℕ)
    → wrong letters kind number used b ≡ wrong letters kind number used a
unfolding wrong
wrong_mapped {a = a} {b} m letters kind number =
    let at : (i t : ℕ) → i ≤ t → t ≤ header_length → part i t b ≡ part i t a =
    λ i t j k. sym (part-take i t header_length b j k) ∙ ap (part i t) m.header ∙ part-take i t header_length a j k in
    rw (
      at 0 kind_at (omega arith) (omega arith),
      at kind_at zero_at (omega arith) (omega arith),
      at zero_at number_at (omega arith) (omega arith),
      at number_at used_at (omega arith) (omega arith),
      at used_at header_length (omega arith) (omega arith),
      m.check,
      m.beyond,
    )

-- blocks with nothing wrong are mapped where their payloads are
right_mapped : {f : ℕ → ℕ} {letters : List ℕ} {kind number used : ℕ} {a b : List ℕ} → Right letters kind number used a → Right letters kind number used b
    → payload_of used b ≡ map f (payload_of used a) → Mapped f used a b
right_mapped s t e =
    record {
      header = headed_header t.headed ∙ sym (headed_header s.headed);
      payload = e;
      beyond = t.cleared ∙ sym s.cleared;
      check = eq-same t.sealed ∙ sym (eq-same s.sealed);
    }

module _ (f : ℕ → ℕ) (kind : ℕ) where
  -- what holds of f on this kind, and of nothing done on others, holds on any
  by_kind : (P : (ℕ → ℕ) → Type 0) (k : ℕ) → (k ≡ kind → P f) → (k ≢ kind → P (λ x. x)) → P (on_kind f kind k)
  unfolding on_kind
  by_kind P k own other = go (ℕ_discrete k kind)
    where
      go : Dec (k ≡ kind) → P (cond (eqb k kind) f (λ x. x))
      go (yes e) = rw (eq-eqb k kind e) (own e)
      go (no e) = rw (ne_eqb k kind e) (other e)

  due_mapped : (d : Due) {a b : List ℕ} → MappedDue f kind d a b → Mapped (on_kind f kind d.kind) d.used a b
  due_mapped d {a} {b} m =
      by_kind (λ g. Mapped g d.used a b) d.kind m.own
      (λ e. rw (m.other e) (record { header = refl; payload = sym (map-id (payload_of d.used a)); beyond = refl; check = refl }))

  -- the same block is the first that is refused
  pub fault_mapped : (letters : List ℕ) (n : ℕ) (ds : List Due) (a b : List ℕ) → MappedFrom f kind ds a b → fault_from letters n ds b ≡ fault_from letters n ds a
  fault_mapped letters n [] a b m = refl
  fault_mapped letters n (d ∷ ds) a b m =
      ap₂ (λ w r. or_later w n r) (wrong_mapped (due_mapped d m.0) letters d.kind n)
      (fault_mapped letters (suc n) ds (drop block_length a) (drop block_length b) m.1)

  -- from a later block on
  mapped_drop : (k : ℕ) (ds : List Due) (a b : List ℕ) → MappedFrom f kind ds a b → MappedFrom f kind (drop k ds) (drop (block_length * k) a) (drop (block_length * k) b)
  mapped_drop zero ds a b m = m
  mapped_drop (suc k) [] a b m = tt
  mapped_drop (suc k) (d ∷ ds) a b m =
      let e : block_length + block_length * k ≡ block_length * suc k = omega arith in
      rw (drop-drop (block_length * k) block_length a, drop-drop (block_length * k) block_length b, e) at (mapped_drop k ds (drop block_length a) (drop block_length b) m.1)

  -- up to a later block
  mapped_take : (k : ℕ) (ds : List Due) (a b : List ℕ) → MappedFrom f kind ds a b → MappedFrom f kind (take k ds) a b
  mapped_take zero ds a b m = tt
  mapped_take (suc k) [] a b m = tt
  mapped_take (suc k) (d ∷ ds) a b m = (m.0, mapped_take k ds (drop block_length a) (drop block_length b) m.1)

  module _ (letters : List ℕ) (ds : List Due) (a b : List ℕ) (m : MappedFrom f kind ds a b) where
    -- so it is between two blocks
    pub part_mapped : (from to : ℕ) → fault_within letters ds b from to ≡ fault_within letters ds a from to
    part_mapped from to = fault_mapped letters from (part from to ds) _ _ (mapped_take (to - from) (drop from ds) _ _ (mapped_drop from ds a b m))

    -- and of each block that is due the same is wrong
    pub block_wrong : (n : ℕ) → n < length ds → let d = get_or ds n no_due in wrong letters d.kind n d.used (block_at b n) ≡ wrong letters d.kind n d.used (block_at a n)
    block_wrong n h = wrong_mapped (due_mapped (get_or ds n no_due) (rw (drop-cons ds n no_due h) at (mapped_drop n ds a b m)).0) letters (get_or ds n no_due).kind n

  -- ---- blocks that are read

  -- some blocks, and then others
  mapped_split : (xs ys : List Due) (a b : List ℕ) → MappedFrom f kind (xs ++ ys) a b
      → MappedFrom f kind xs a b × MappedFrom f kind ys (drop (block_length * length xs) a) (drop (block_length * length xs) b)
  mapped_split [] ys a b m = (tt, m)
  mapped_split (d ∷ xs) ys a b m =
      let r = mapped_split xs ys (drop block_length a) (drop block_length b) m.1 in
      ((m.0, r.0), rw (block_drop xs a, block_drop xs b) at r.1)

  -- the stream of blocks of one kind
  stream_mapped : (k size count bytes : ℕ) (a b : List ℕ) → MappedFrom f kind (dues_from k size count bytes) a b
      → stream_from (dues_from k size count bytes) b ≡ map (on_kind f kind k) (stream_from (dues_from k size count bytes) a)
  stream_mapped k size zero bytes a b m = refl
  stream_mapped k size (suc count) bytes a b m =
      ap₂ ◌++◌ (due_mapped (due k (min size bytes)) m.0).payload (stream_mapped k size count (bytes - size) (drop block_length a) (drop block_length b) m.1)
      ∙ sym (map-append (on_kind f kind k) (payload_of (min size bytes) (take block_length a)) _)

  module _ (z : f 0 ≡ 0) where
    -- numbers of one byte each are read so too: past the end each is 0
    unpack_ones : (n : ℕ) (bs : List ℕ) → unpack (rep n (1 ∷ [])) (map f bs) ≡ map f (unpack (rep n (1 ∷ [])) bs)
    unpack_ones zero bs = refl
    unpack_ones (suc n) [] = ap₂ (λ (x : ℕ) (l : List ℕ). x ∷ l) (sym z) (unpack_ones n [])
    unpack_ones (suc n) (b ∷ bs) = rw (add-zero b, add-zero (f b), unpack_ones n bs)

    unpack_mapped : (l : Layout) (bs : List ℕ) → Single kind l
        → unpack (rep l.count l.widths) (map (on_kind f kind l.kind) bs) ≡ map (on_kind f kind l.kind) (unpack (rep l.count l.widths) bs)
    unpack_mapped l bs s =
        let ws = rep l.count l.widths in
        by_kind (λ g. unpack ws (map g bs) ≡ map g (unpack ws bs)) l.kind (λ e. rw (s e) (unpack_ones l.count bs)) (λ e. rw (map-id bs, map-id (unpack ws bs)))

    -- the numbers of a layout
    numbers_mapped : (l : Layout) (n : ℕ) (a b : List ℕ) → Single kind l → MappedFrom f kind (section_dues (section_of l)) (drop (block_length * n) a) (drop (block_length * n) b)
        → numbers_at l n b ≡ map (on_kind f kind l.kind) (numbers_at l n a)
    numbers_mapped l n a b s m =
        ap (unpack (rep l.count l.widths)) (stream_mapped l.kind l.size (blocks_in l) (section_of l).bytes _ _ m)
        ∙ unpack_mapped l (stream_from (section_dues (section_of l)) (drop (block_length * n) a)) s

    -- the numbers of each layout in turn
    pub read_mapped : (n : ℕ) (ls : List Layout) (a b : List ℕ) → Every Laid ls → Every (Single kind) ls
        → MappedFrom f kind (all_dues ls) (drop (block_length * n) a) (drop (block_length * n) b) → read_from n ls b ≡ mapped_all f kind ls (read_from n ls a)
    read_mapped n [] a b laid s m = refl
    read_mapped n (l ∷ ls) a b laid s m =
        let p = mapped_split (section_dues (section_of l)) (all_dues ls) _ _ m in
        ap₂ (λ (xs : List ℕ) (xss : List (List ℕ)). xs ∷ xss)
        (numbers_mapped l n a b s.0 p.0)
        (read_mapped (n + blocks_in l) ls a b laid.1 s.1 (rw (next-drop laid.0 n a, next-drop laid.0 n b) at p.1))

  -- ---- blocks that are written

  -- numbers that fit in one byte each are their bytes
  pack_ones : (n : ℕ) (xs : List ℕ) → Fits (rep n (1 ∷ [])) xs → pack (rep n (1 ∷ [])) xs ≡ xs
  pack_ones zero [] h = refl
  pack_ones (suc n) (x ∷ xs) h = let e = h.0 in ap₂ (λ (y : ℕ) (l : List ℕ). y ∷ l) (omega arith) (pack_ones n xs h.1)
  pack_ones zero (x ∷ xs) h = elim h [ ]
  pack_ones (suc n) [] h = elim h [ ]

  pack_mapped : (l : Layout) (xs : List ℕ) → Single kind l → Fits (rep l.count l.widths) xs → Fits (rep l.count l.widths) (map (on_kind f kind l.kind) xs)
      → pack (rep l.count l.widths) (map (on_kind f kind l.kind) xs) ≡ map (on_kind f kind l.kind) (pack (rep l.count l.widths) xs)
  pack_mapped l xs s h =
      let ws = rep l.count l.widths in
      by_kind (λ g. Fits ws (map g xs) → pack ws (map g xs) ≡ map g (pack ws xs)) l.kind
      (λ e. rw (s e) (λ k. pack_ones l.count (map f xs) k ∙ ap (map f) (sym (pack_ones l.count xs (rw (s e) at h)))))
      (λ e k. rw (map-id xs, map-id (pack ws xs)))

  -- a block, and then others
  block_first : (d : Due) (ds : List Due) (x y a b : List ℕ) → length x ≡ block_length → length y ≡ block_length → MappedDue f kind d x y → MappedFrom f kind ds a b
      → MappedFrom f kind (d ∷ ds) (x ++ a) (y ++ b)
  block_first d ds x y a b i j h m = rw (take_at x a block_length i, take_at y b block_length j, drop_at x a block_length i, drop_at y b block_length j) (h, m)

  module _ (letters : List ℕ) (four : length letters ≡ letters_length) where
    block_own : (k n : ℕ) (payload : List ℕ) → length payload ≤ most_payload → Mapped f (length payload) (block_of letters k n payload) (block_of letters k n (map f payload))
    block_own k n payload small =
        let e = length-map payload f in
        right_mapped (right_of (block_right letters k n four payload small)) (right_of (rw e at (block_right letters k n four (map f payload) (rw e small))))
        ((rw e at (block_payload letters k n four (map f payload))) ∙ ap (map f) (sym (block_payload letters k n four payload)))

    block_mapped : (n : ℕ) (d : Due) (payload : List ℕ) → length payload ≡ d.used → d.used ≤ most_payload
        → MappedDue f kind d (block_of letters d.kind n payload) (block_of letters d.kind n (map (on_kind f kind d.kind) payload))
    block_mapped n d payload e small =
        by_kind (λ g. MappedDue f kind d (block_of letters d.kind n payload) (block_of letters d.kind n (map g payload))) d.kind
        (λ y. record { own = λ o. rw (← e) (block_own d.kind n payload (omega arith)); other = λ o. absurd (o y) })
        (λ y. record { own = λ o. absurd (y o); other = λ o. rw (map-id payload) })

    -- the blocks of one kind, and then others
    sheet_mapped : (n k size count bytes : ℕ) (stream : List ℕ) (ds : List Due) (a b : List ℕ) → size ≤ most_payload → length stream ≡ used_all (dues_from k size count bytes) → MappedFrom f kind ds a b
        → MappedFrom f kind (dues_from k size count bytes ++ ds) (sheet_from letters n (dues_from k size count bytes) stream ++ a) (sheet_from letters n (dues_from k size count bytes) (map (on_kind f kind k) stream) ++ b)
    sheet_mapped n k size zero bytes stream ds a b small long m = m
    sheet_mapped n k size (suc count) bytes stream ds a b small long m =
        let u = min size bytes in
        let g = map (on_kind f kind k) in
        let p = take u stream in
        let r = drop u stream in
        let size-p : length p ≡ u = length-take-le u stream (omega arith) in
        let size-q : length (g p) ≡ u = length-map p (on_kind f kind k) ∙ size-p in
        let cut : g stream ≡ g p ++ g r = ap g (sym (take-append-drop u stream)) ∙ map-append (on_kind f kind k) p r in
        let x = block_of letters k n p in
        let y = block_of letters k n (g p) in
        let later = sheet_mapped (suc n) k size count (bytes - size) r ds a b small (simp length-drop (omega arith)) m in
        rw (cut, take_at (g p) (g r) u size-q, drop_at (g p) (g r) u size-q, append_assoc x, append_assoc y)
        (block_first (due k u) (dues_from k size count (bytes - size) ++ ds) x y _ _ (length_block letters k n four p (omega arith)) (length_block letters k n four (g p) (omega arith))
        (block_mapped n (due k u) p size-p (omega arith)) later)

    -- the sheet of mapped numbers is mapped
    pub written_mapped : (n : ℕ) (ls : List Layout) (xss : List (List ℕ)) → Every Laid ls → Every (Single kind) ls → AllFit ls xss → AllFit ls (mapped_all f kind ls xss)
        → MappedFrom f kind (all_dues ls) (written_from letters n ls xss) (written_from letters n ls (mapped_all f kind ls xss))
    written_mapped n [] [] laid s h k = tt
    written_mapped n (l ∷ ls) (xs ∷ xss) laid s h k =
        let ws = rep l.count l.widths in
        let long = length-pack ws xs (omega (arith, length_fits ws xs h.0)) ∙ used_own laid.0 in
        let later = written_mapped (n + blocks_in l) ls xss laid.1 s.1 h.1 k.1 in
        rw (pack_mapped l xs s.0 h.0 k.0) (sheet_mapped n l.kind l.size (blocks_in l) (section_of l).bytes (pack ws xs) (all_dues ls) _ _ laid.0.high long later)
    written_mapped n [] (xs ∷ xss) laid s h k = elim h [ ]
    written_mapped n (l ∷ ls) [] laid s h k = elim h [ ]
