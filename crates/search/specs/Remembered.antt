-- Pieces that are remembered: for each region the number found for it, together with the version that its sector had then.
-- A made move raises the versions of the two sectors that it touches, so that what was found for their regions no longer counts. Zeros remember nothing.
-- Assumes nothing.
use Rattle.std.specs.Prelude.{ℕ, ◌+◌, ◌-◌, ◌*◌, ◌/◌, ◌%◌, ◌≤◌, ◌<◌, ◌^◌, ◌≡◌, List, ◌≢◌, length, get_or, set, replicate}
use Rattle.std.proofs.Common.{arith, ap, ◌∙◌, length-set, get_or-set_same, get_or-set_other}
use Rattle.std.proofs.Math.Decide.{ℕ_discrete}
use Rattle.std.proofs.lemmas.List.{length-replicate, get_or-replicate}
use Rattle.lists.specs.Sums.{In, at}
use Rattle.meaning.specs.Plan.{Edge, most_regions, most_moves}
use Rattle.meaning.specs.Paths.{Ends}
use Rattle.meaning.specs.Faces.{pieces, pieces_bound}
use Rattle.meaning.proofs.Alike.{pieces-alike}
use Rattle.search.specs.Confined.{Confined, confined_agree}

-- what a version is multiplied by, to stand with a number of pieces in one number: more than any number of pieces
abbrev pub stamp : ℕ
stamp = 1024

-- n pieces found for a region whose sector has the version
abbrev pub found_at : ℕ → ℕ → ℕ
found_at version n = (version + 1) * stamp + n

-- the version of sector c, which stands behind what is remembered of the R regions
abbrev pub version_of : ℕ → List ℕ → ℕ → ℕ
version_of R m c = get_or m (R + c - 1) 0

-- what is remembered of a region of the colouring is right where its version is its sector's; the clock tells how many moves there were, and no version is above it
pub record Remembered (R S : ℕ) (edges : List Edge) (col : List ℕ) (clock : ℕ) (m : List ℕ) : Type 0 where
  pub few : R ≤ most_regions
  pub early : clock ≤ most_moves
  pub room : R + S ≤ length m
  pub size : length col ≡ R
  pub sector : (u : ℕ) → In R u → In S (at col u)
  pub right : (u : ℕ) → In R u → at m u / stamp ≡ version_of R m (at col u) + 1 → at m u % stamp ≡ pieces edges col u
  pub stamps : (u : ℕ) → In R u → at m u / stamp ≤ clock + 1
  pub versions : (c : ℕ) → In S c → version_of R m c ≤ clock

-- the version of sector c has a place
pub record Raisable (R c : ℕ) (m : List ℕ) : Type 0 where
  pub low : 1 ≤ c
  pub high : R + c ≤ length m

-- zeros remember nothing
pub remembered_none : {R S : ℕ} {edges : List Edge} {col : List ℕ} (n : ℕ) → R ≤ most_regions → R + S ≤ n → length col ≡ R → ((u : ℕ) → In R u → In S (at col u))
    → Remembered R S edges col 0 (replicate n 0)
remembered_none {R} {S} {col = col} n few room size sector =
    record {
      few = few;
      early = omega arith;
      room = omega (arith, room, length-replicate {A = ℕ} n 0);
      size = size;
      sector = sector;
      right = λ u i e. absurd (none (at zeros u) (version_of R zeros (at col u)) (region u i) e);
      stamps = λ u i. omega (arith, region u i);
      versions = λ c i. omega (arith, get_or-replicate {A = ℕ} n (R + c - 1) 0 0 (omega (arith, room)));
    }
  where
    zeros : List ℕ
    zeros = replicate n 0

    region : (u : ℕ) → In R u → at zeros u ≡ 0
    region u i = get_or-replicate {A = ℕ} n (u - 1) 0 0 (omega (arith, room))

    none : (x y : ℕ) → x ≡ 0 → x / stamp ≡ y + 1 → ⊥
    none x y z e = omega (arith, z, e)

-- what is remembered of a colouring is so of one that is equal to it
pub remembered_same : {R S : ℕ} {edges : List Edge} {col col' : List ℕ} {clock : ℕ} {m : List ℕ} → col' ≡ col → Remembered R S edges col clock m → Remembered R S edges col' clock m
remembered_same e r = rw e r

module _ {R S : ℕ} {edges : List Edge} {col : List ℕ} {clock : ℕ} {m : List ℕ} (r : Remembered R S edges col clock m) where
  -- it stays so as the clock goes on
  pub remembered_later : clock < most_moves → Remembered R S edges col (clock + 1) m
  remembered_later h =
      record {
        few = r.few;
        early = omega (arith, h);
        room = r.room;
        size = r.size;
        sector = r.sector;
        right = r.right;
        stamps = λ u i. omega (arith, r.stamps u i);
        versions = λ c i. omega (arith, r.versions c i);
      }

  -- the version of each sector has a place
  pub remembered_raisable : {c : ℕ} → In S c → Raisable R c m
  remembered_raisable i = record { low = i.low; high = omega (arith, r.room, i.high) }

  module _ {v : ℕ} (i : In R v) where
    -- so has that of a region's sector
    pub remembered_in : R + at col v - 1 < length m
    remembered_in = omega (arith, r.room, r.sector v i)

    -- the next version fits
    pub remembered_version : version_of R m (at col v) + 1 < 2 ^ 64
    remembered_version = omega (arith, r.versions (at col v) (r.sector v i), r.early)

    module _ {n : ℕ} (e : n ≡ pieces edges col v) where
      -- what is found fits, put together with the version
      pub remembered_fits : found_at (version_of R m (at col v)) n < 2 ^ 64
      remembered_fits = omega (arith, r.versions (at col v) (r.sector v i), r.early, e, pieces_bound edges col v, r.size, r.few)

      -- and is put down
      pub remembered_store : Remembered R S edges col clock (set m (v - 1) (found_at (version_of R m (at col v)) n))
      remembered_store =
          record {
            few = r.few;
            early = r.early;
            room = omega (arith, r.room, length-set m (v - 1) x);
            size = r.size;
            sector = r.sector;
            right = λ u k q. right u k (ℕ_discrete u v) q;
            stamps = λ u k. stamps u k (ℕ_discrete u v);
            versions = λ c k. omega (arith, version c k, r.versions c k);
          }
        where
          low : n < stamp
          low = omega (arith, e, pieces_bound edges col v, r.size, r.few)

          y : ℕ
          y = version_of R m (at col v)

          x : ℕ
          x = found_at y n

          here : get_or (set m (v - 1) x) (v - 1) 0 ≡ x
          here = get_or-set_same m (v - 1) x 0 (omega (arith, r.room))

          other : (u : ℕ) → In R u → u ≢ v → at (set m (v - 1) x) u ≡ at m u
          other u k ne = get_or-set_other m (v - 1) (u - 1) x 0 (omega (arith, ne))

          version : (c : ℕ) → In S c → version_of R (set m (v - 1) x) c ≡ version_of R m c
          version c k = get_or-set_other m (v - 1) (R + c - 1) x 0 (omega arith)

          found : (z : ℕ) → z ≡ found_at y n → z % stamp ≡ n
          found z q = omega (arith, q, low)

          stamped : (z : ℕ) → z ≡ found_at y n → z / stamp ≡ y + 1
          stamped z q = omega (arith, q, low)

          right : (u : ℕ) → In R u → Dec (u ≡ v) → at (set m (v - 1) x) u / stamp ≡ version_of R (set m (v - 1) x) (at col u) + 1 → at (set m (v - 1) x) u % stamp ≡ pieces edges col u
          right u k (yes q) t = rw q (found _ here ∙ e)
          right u k (no ne) t = rw (other u k ne) (r.right u k (rw (other u k ne, version (at col u) (r.sector u k)) at t))

          stamps : (u : ℕ) → In R u → Dec (u ≡ v) → at (set m (v - 1) x) u / stamp ≤ clock + 1
          stamps u k (yes q) = rw q (omega (arith, stamped _ here, r.versions (at col v) (r.sector v i)))
          stamps u k (no ne) = rw (other u k ne) (r.stamps u k)

  module _ {col' : List ℕ} {c d : ℕ} (w : Confined R S col col' c d) where
    -- where only regions of sectors c and d changed theirs, what is remembered is right of the new colouring once the versions of both are raised
    pub remembered_raise : Ends R edges → In S c → In S d → clock < most_moves → Remembered R S edges col' (clock + 1) (set (set m (R + c - 1) (clock + 1)) (R + d - 1) (clock + 1))
    remembered_raise ends ic id h =
        record {
          few = r.few;
          early = omega (arith, h);
          room = omega (arith, r.room, length-set m (R + c - 1) (clock + 1), length-set once (R + d - 1) (clock + 1));
          size = w.size';
          sector = w.sector';
          right = λ u i q. right u i (ℕ_discrete (at col' u) c) (ℕ_discrete (at col' u) d) q;
          stamps = λ u i. rw (region u i) (omega (arith, r.stamps u i));
          versions = λ x i. versions x i (ℕ_discrete x c) (ℕ_discrete x d);
        }
      where
        once : List ℕ
        once = set m (R + c - 1) (clock + 1)

        m' : List ℕ
        m' = set once (R + d - 1) (clock + 1)

        region : (u : ℕ) → In R u → at m' u ≡ at m u
        region u i = get_or-set_other once (R + d - 1) (u - 1) (clock + 1) 0 (omega arith) ∙ get_or-set_other m (R + c - 1) (u - 1) (clock + 1) 0 (omega arith)

        second : version_of R m' d ≡ clock + 1
        second = get_or-set_same once (R + d - 1) (clock + 1) 0 (omega (arith, r.room, length-set m (R + c - 1) (clock + 1)))

        first : c ≢ d → version_of R m' c ≡ clock + 1
        first ne = get_or-set_other once (R + d - 1) (R + c - 1) (clock + 1) 0 (omega (arith, ne)) ∙ get_or-set_same m (R + c - 1) (clock + 1) 0 (omega (arith, r.room))

        third : (x : ℕ) → In S x → x ≢ c → x ≢ d → version_of R m' x ≡ version_of R m x
        third x i nc nd =
            get_or-set_other once (R + d - 1) (R + x - 1) (clock + 1) 0 (omega (arith, nd))
            ∙ get_or-set_other m (R + c - 1) (R + x - 1) (clock + 1) 0 (omega (arith, nc))

        no_more : (u z : ℕ) → In R u → version_of R m' z ≡ clock + 1 → at m' u / stamp ≡ version_of R m' z + 1 → ⊥
        no_more u z i v q = omega (arith, q, v, ap (λ (n : ℕ). n / stamp) (region u i), r.stamps u i)

        right : (u : ℕ) → In R u → Dec (at col' u ≡ c) → Dec (at col' u ≡ d) → at m' u / stamp ≡ version_of R m' (at col' u) + 1 → at m' u % stamp ≡ pieces edges col' u
        right u i p (yes z) q = absurd (no_more u (at col' u) i (rw z second) q)
        right u i (yes z) (no nd) q = absurd (no_more u (at col' u) i (rw z (first (λ t. nd (z ∙ t)))) q)
        right u i (no nc) (no nd) q =
            rw (region u i)
            (r.right u i (rw (region u i, third (at col' u) (w.sector' u i) nc nd, w.back u i nc nd) at q) ∙ pieces-alike edges ends (confined_agree w i nc nd))

        versions : (x : ℕ) → In S x → Dec (x ≡ c) → Dec (x ≡ d) → version_of R m' x ≤ clock + 1
        versions x i p (yes z) = rw z (omega (arith, second))
        versions x i (yes z) (no nd) = rw z (omega (arith, first (λ t. nd (z ∙ t))))
        versions x i (no nc) (no nd) = omega (arith, third x i nc nd, r.versions x i)
