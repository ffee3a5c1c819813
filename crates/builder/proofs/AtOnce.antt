-- The planes at half places in one pass, by blocks of 64 bytes. Assumes nothing.
-- First a plane byte by byte, which is the plane row by row, and block by block too; then blocks of three planes in turn, which are three planes in turn, since no block reads what a later block of another plane stores; last the planes by their numbers.
use mathlib.Core.Path.{◌≡◌, refl, sym, ap, ◌∙◌, subst}
use mathlib.Core.List.{List}
use mathlib.Core.Logic.{inl}
use Prim.Native.Nat.{ℕ, zero, suc, ◌+◌, ◌*◌, ◌/◌, ◌%◌, ◌≤◌, ◌<◌}
use native.Mathlib.Nat.{add-mul, zero-mul, one-mul}
use native.Mathlib.Numerals.{add-one}
use native.Mathlib.Omega.{arith}
use lib.ListN.{length, get_or, set, length-set}
use Rattle.filters.specs.Row.{mean_of, means_of}
use Rattle.filters.proofs.Lengths.{means_length}
use Rattle.layouts.specs.Storing.{put, steps}
use Rattle.layouts.proofs.Loops.{row_in}
use Rattle.builder.specs.Canvas.{fetch, copy_run, ◌▷◌}
use Rattle.builder.specs.declared.refining.Interp.{Interp}
use Rattle.builder.specs.Refining.{chunked, pair_run, pair_plane, plane_at, mean_planes}
use Rattle.builder.specs.Room.{Planes, Halves, Tight, Three}
use Rattle.builder.proofs.Runs.{fetch_length, fetch_before, put_length}
use Rattle.builder.proofs.Refined.{Laid, laid_none, laid_more, laid_whole, laid_read, mean_at, pair_laid}
use Rattle.builder.proofs.Swaps.{stores_swap, steps_more, steps_keep, steps_past, steps_two}

-- ---- a plane byte by byte, at t from those at l and r
module _ (t l r : ℕ) where
  abbrev byte : ℕ → List ℕ → List ℕ
  byte k c = set c (t + k) (mean_at c l r k)

  bytes_long : (m : ℕ) (c : List ℕ) → length (steps byte m c) ≡ length c
  bytes_long m c = steps_keep (λ d. length d ≡ length c) byte m c (λ k d lt e. length-set d (t + k) (mean_at d l r k) ∙ e) refl

  -- n bytes from byte k on are a run, whose reads end before t
  module _ (n k : ℕ) (c : List ℕ) (left : l + n ≤ t) (right : r + n ≤ t) (fits : t + (k + n) ≤ length c) where
    abbrev rule : ℕ → ℕ
    rule = mean_at c (l + k) (r + k)

    bytes_laid : (i : ℕ) → i ≤ n → Laid rule c (steps (λ x. byte (k + x)) i c) (t + k) n i
    unfolding steps
    bytes_laid zero le = laid_none rule c (t + k) n (omega arith)
    bytes_laid (suc i) le =
        let h = bytes_laid i (omega arith) in
        let d = steps (λ x. byte (k + x)) i c in
        let at : (s : ℕ) → s + k + i ≡ s + (k + i) = λ s. omega arith in
        let read : (s : ℕ) → s + n ≤ t → get_or d (s + (k + i)) 0 ≡ get_or c (s + k + i) 0 = λ s e. ap (λ (j : ℕ). get_or d j 0) (sym (at s)) ∙ laid_read (s + k + i) h (inl (omega arith)) in
        let made : mean_at d l r (k + i) ≡ rule i = ap (λ (x : ℕ). mean_of x (get_or d (r + (k + i)) 0)) (read l left) ∙ ap (mean_of (get_or c (l + k + i) 0)) (read r right) in
        subst (λ (j : ℕ). Laid rule c (set d j (mean_at d l r (k + i))) (t + k) n (suc i)) (at t)
        (subst (Laid rule c (set d (t + k + i) (mean_at d l r (k + i))) (t + k) n) (add-one i) (laid_more h (omega arith) (omega arith) made))

    bytes_run : steps (λ x. byte (k + x)) n c ≡ pair_run (t + k) (l + k) (r + k) n c
    bytes_run = laid_whole (bytes_laid n (omega arith)) (omega arith) ∙ pair_laid c (t + k) (l + k) (r + k) n

  -- m runs of n bytes
  runs_bytes : (n m : ℕ) (c : List ℕ) → l + n ≤ t → r + n ≤ t → t + m * n ≤ length c → steps (λ y. pair_run (t + y * n) (l + y * n) (r + y * n) n) m c ≡ steps byte (m * n) c
  unfolding steps
  runs_bytes n zero c left right fits = ap (λ (k : ℕ). steps byte k c) (sym (zero-mul n))
  runs_bytes n (suc m) c left right fits =
      let more : m * n + n ≡ suc m * n = ap (λ (k : ℕ). m * n + k) (sym (one-mul n)) ∙ sym (add-mul m 1 n) ∙ ap (λ (k : ℕ). k * n) (add-one m) in
      ap (pair_run (t + m * n) (l + m * n) (r + m * n) n) (runs_bytes n m c left right (omega arith))
      ∙ sym (bytes_run n (m * n) (steps byte (m * n) c) left right (omega (arith, bytes_long (m * n) c)))
      ∙ sym (steps_more byte (m * n) n c)
      ∙ ap (λ (k : ℕ). steps byte k c) more

-- ---- blocks
abbrev pub block : ℕ → ℕ → ℕ → List ℕ → List ℕ
block t r k = pair_run (t + k * 64) (0 + k * 64) (r + k * 64) 64

-- what is read before a run that is stored
means_read : (c ys : List ℕ) (at l r n : ℕ) → l + n ≤ at → r + n ≤ at → means_of n (fetch (put c at ys) l n) (fetch (put c at ys) r n) ≡ means_of n (fetch c l n) (fetch c r n)
means_read c ys at l r n left right = rw (fetch_before c ys at l n left, fetch_before c ys at r n right)

pairs_swap : (t l r t' l' r' n : ℕ) (c : List ℕ) → t + n ≤ t' → t' ≤ length c → l + n ≤ t' → r + n ≤ t' → l' + n ≤ t → r' + n ≤ t → pair_run t' l' r' n (pair_run t l r n c) ≡ pair_run t l r n (pair_run t' l' r' n c)
unfolding pair_run
pairs_swap t l r t' l' r' n c apart fits a b a' b' =
    stores_swap t t' (λ d. means_of n (fetch d l n) (fetch d r n)) (λ d. means_of n (fetch d l' n) (fetch d r' n)) c (omega (arith, means_length n (fetch c l n) (fetch c r n))) fits
    (means_read c _ t l' r' n a' b') (means_read c _ t' l r n a b)

-- three blocks read whole before the first is stored, each as if it were made after the one before
pub block_made : (at p a b d : ℕ) (c x y z : List ℕ) → p + 65 ≤ a → a ≤ b → x ≡ means_of 64 (fetch c at 64) (fetch c (1 + at) 64) → y ≡ means_of 64 (fetch c at 64) (fetch c (p + at) 64) → z ≡ means_of 64 (fetch c at 64) (fetch c (p + 1 + at) 64) → put (put (put c (a + at) x) (b + at) y) (d + at) z ≡ c ▷ pair_run (a + at) at (1 + at) 64 ▷ pair_run (b + at) at (p + at) 64 ▷ pair_run (d + at) at (p + 1 + at) 64
unfolding pair_run
block_made at p a b d c x y z near later ex ey ez =
    let c1 = pair_run (a + at) at (1 + at) 64 c in
    let c2 = pair_run (b + at) at (p + at) 64 c1 in
    let one : put c (a + at) x ≡ c1 = ap (put c (a + at)) ex in
    let two : put (put c (a + at) x) (b + at) y ≡ c2 = ap (λ (l : List ℕ). put l (b + at) y) one ∙ ap (put c1 (b + at)) (ey ∙ sym (means_read c _ (a + at) at (p + at) 64 (omega arith) (omega arith))) in
    ap (λ (l : List ℕ). put l (d + at) z) two
    ∙ ap (put c2 (d + at)) (ez ∙ sym (means_read c1 _ (b + at) at (p + 1 + at) 64 (omega arith) (omega arith) ∙ means_read c _ (a + at) at (p + 1 + at) 64 (omega arith) (omega arith)))

module _ {i : Interp} (T : Tight i) where
  abbrev size : ℕ
  size = i.height * i.pitch

  abbrev count : ℕ
  count = size / 64

  -- a plane at t after plane 0, from plane 0 and the places r on
  plane_blocks : (t r : ℕ) (c : List ℕ) → r + i.pitch ≤ t → r + 64 ≤ t → t + size ≤ length c → steps (block t r) count c ≡ pair_plane i t 0 r c
  unfolding pair_plane
  plane_blocks t r c row run fits =
      runs_bytes t 0 r 64 count c (omega arith) run (omega (arith, T.blocks))
      ∙ ap (λ (k : ℕ). steps (byte t 0 r) k c) T.blocks
      ∙ sym (runs_bytes t 0 r i.pitch i.height c (omega arith) row fits)
      ∙ ap (λ (n : ℕ). steps (λ y. pair_run (t + y * i.pitch) (0 + y * i.pitch) (r + y * i.pitch) n) i.height c) (sym T.rows)

  pub block_in : (k : ℕ) → k < count → k * 64 + 64 ≤ size
  block_in k lt = omega (arith, row_in k count 64 lt, T.blocks)

  module _ {len a b d : ℕ} (S : Three len i a b d) where
    abbrev Long : List ℕ → Type 0
    Long c = length c ≡ len

    run_keeps : (t l r n : ℕ) (c : List ℕ) → t + n ≤ len → Long c → Long (pair_run t l r n c)
    unfolding pair_run
    run_keeps t l r n c fits e = put_length c t (means_of n (fetch c l n) (fetch c r n)) (omega (arith, means_length n (fetch c l n) (fetch c r n))) ∙ e

    row_keeps : (t l r : ℕ) → t + size ≤ len → (y : ℕ) (c : List ℕ) → y < i.height → Long c → Long (pair_run (t + y * i.pitch) (l + y * i.pitch) (r + y * i.pitch) (chunked i.width) c)
    row_keeps t l r fits y c lt e = run_keeps _ _ _ (chunked i.width) c (omega (arith, row_in y i.height i.pitch lt, T.rows)) e

    plane_keeps : (t l r : ℕ) → t + size ≤ len → (c : List ℕ) → Long c → Long (pair_plane i t l r c)
    unfolding pair_plane
    plane_keeps t l r fits c e = steps_keep Long _ i.height c (row_keeps t l r fits) e

    block_keeps : (t r : ℕ) → t + size ≤ len → (k : ℕ) (c : List ℕ) → k < count → Long c → Long (block t r k c)
    block_keeps t r fits k c lt e = run_keeps (t + k * 64) (0 + k * 64) (r + k * 64) 64 c (omega (arith, block_in k lt)) e

    -- a later block of the plane at t, and an earlier one of a plane at u past it
    blocks_swap : (t r u s : ℕ) → size ≤ t → t + size ≤ u → u + size ≤ len → r ≤ i.pitch + 1 → s ≤ i.pitch + 1 → (k j : ℕ) (c : List ℕ) → k < j → j < count → Long c → block t r j (block u s k c) ≡ block u s k (block t r j c)
    blocks_swap t r u s after past fits near near' k j c lt in' e =
        let first = row_in k j 64 lt in
        let last = block_in j in' in
        sym
        (pairs_swap (t + j * 64) (0 + j * 64) (r + j * 64) (u + k * 64) (0 + k * 64) (s + k * 64) 64 c
        (omega arith) (omega arith) (omega arith) (omega (arith, T.near)) (omega arith) (omega (arith, T.near)))

    pub in_blocks : (c : List ℕ) → Long c → steps (λ k e. block d (i.pitch + 1) k (block b i.pitch k (block a 1 k e))) count c ≡ c ▷ pair_plane i a 0 1 ▷ pair_plane i b 0 i.pitch ▷ pair_plane i d 0 (i.pitch + 1)
    in_blocks c e =
        let p = i.pitch in
        let inside = S.inside in
        let ka = block_keeps a 1 (omega (arith, S.second, S.third)) in
        let kb = block_keeps b p (omega (arith, S.third)) in
        let kd = block_keeps d (p + 1) inside in
        let ca = steps (block a 1) count c in
        let cb = steps (block b p) count ca in
        let ea = steps_keep Long (block a 1) count c ka e in
        let eb = steps_keep Long (block b p) count ca kb ea in
        steps_two Long (block a 1) (λ k x. block d (p + 1) k (block b p k x)) count ka (λ k x lt q. kd k (block b p k x) lt (kb k x lt q))
        (λ k j x lt in' q.
        blocks_swap a 1 d (p + 1) S.first (omega (arith, S.second, S.third)) inside (omega arith) (omega arith) k j (block b p k x) lt in' (kb k x (omega arith) q)
        ∙ ap (block d (p + 1) k) (blocks_swap a 1 b p S.first S.second (omega (arith, S.third)) (omega arith) (omega arith) k j x lt in' q))
        c e
        ∙ steps_two Long (block b p) (block d (p + 1)) count kb kd (blocks_swap b p d (p + 1) (omega (arith, S.first, S.second)) S.third inside (omega arith) (omega arith)) ca ea
        ∙ plane_blocks d (p + 1) cb (omega (arith, T.near, S.first, S.second, S.third)) (omega (arith, T.near, S.first, S.second, S.third)) (omega (arith, eb))
        ∙ ap (pair_plane i d 0 (p + 1)) (plane_blocks b p ca (omega (arith, T.near, S.first, S.second)) (omega (arith, T.near, S.first, S.second)) (omega (arith, ea, S.third)))
        ∙ ap (λ (x : List ℕ). pair_plane i d 0 (p + 1) (pair_plane i b 0 p x)) (plane_blocks a 1 c (omega (arith, T.near, S.first)) (omega (arith, T.near, S.first)) (omega (arith, S.second, S.third)))

    -- the first row of the plane at b is copied before or after the plane at d is made
    abbrev row : ℕ → List ℕ → List ℕ
    row y = pair_run (d + y * i.pitch) (0 + y * i.pitch) (i.pitch + 1 + y * i.pitch) (chunked i.width)

    row_swap : i.width ≤ i.pitch → (y : ℕ) (c : List ℕ) → y < i.height → Long c → copy_run 0 b i.width (row y c) ≡ row y (copy_run 0 b i.width c)
    unfolding pair_run copy_run
    row_swap fits y c lt e =
        let n = chunked i.width in
        let p = i.pitch in
        let r = row_in y i.height p lt in
        sym
        (stores_swap b (d + y * p) (λ x. fetch x 0 i.width) (λ x. means_of n (fetch x (0 + y * p) n) (fetch x (p + 1 + y * p) n)) c
        (omega (arith, fetch_length c 0 i.width, S.third, r)) (omega (arith, S.inside, r))
        (means_read c _ b (0 + y * p) (p + 1 + y * p) n (omega (arith, T.rows, S.first, S.second, r)) (omega (arith, T.rows, T.near, S.first, S.second, r)))
        (fetch_before c _ (d + y * p) 0 i.width (omega (arith, S.third, r))))

    copy_swap : i.width ≤ i.pitch → (c : List ℕ) → Long c → copy_run 0 b i.width (pair_plane i d 0 (i.pitch + 1) c) ≡ pair_plane i d 0 (i.pitch + 1) (copy_run 0 b i.width c)
    unfolding pair_plane
    copy_swap fits c e = steps_past Long (copy_run 0 b i.width) row i.height (row_keeps d 0 (i.pitch + 1) S.inside) (row_swap fits) c e

    -- the stages in the order in which they are made
    pub once_stages : i.width ≤ i.pitch → (c c1 c2 c3 : List ℕ) → Long c → c1 ≡ c ▷ pair_plane i a 0 1 ▷ pair_plane i b 0 i.pitch ▷ pair_plane i d 0 (i.pitch + 1) → c2 ≡ copy_run 0 b i.width c1 → c3 ≡ copy_run 1 d i.width c2 → c3 ≡ c ▷ pair_plane i a 0 1 ▷ pair_plane i b 0 i.pitch ▷ copy_run 0 b i.width ▷ pair_plane i d 0 (i.pitch + 1) ▷ copy_run 1 d i.width
    once_stages fits c c1 c2 c3 e e1 e2 e3 =
        let ka = plane_keeps a 0 1 (omega (arith, S.second, S.third, S.inside)) in
        let kb = plane_keeps b 0 i.pitch (omega (arith, S.third, S.inside)) in
        e3 ∙ ap (copy_run 1 d i.width) (e2 ∙ ap (copy_run 0 b i.width) e1 ∙ copy_swap fits (c ▷ pair_plane i a 0 1 ▷ pair_plane i b 0 i.pitch) (kb _ (ka c e)))

-- ---- the planes by their numbers
-- what is tested: the chunks of a row, and the places of a plane
pub tight_tested : {i : Interp} {n s : ℕ} → n ≡ chunked i.width → n ≡ i.pitch → s ≡ plane_at i 1 → s % 64 ≡ 0 → i.pitch + 64 < s → Tight i
tight_tested {i} {n} {s} is rows one blocks near =
    let e : s ≡ i.height * i.pitch = one ∙ one-mul (i.height * i.pitch) in
    record { rows = sym is ∙ rows; blocks = subst (λ (k : ℕ). k / 64 * 64 ≡ k) e (omega (arith, blocks)); near = omega (arith, e) }

pub three_planes : {len scratch : ℕ} {i : Interp} {a b d : ℕ} (A B D : ℕ) → A ≡ plane_at i a → B ≡ plane_at i b → D ≡ plane_at i d → Halves a b d → Planes (d + 1) len scratch i → Three len i A B D
three_planes {i = i} {a = a} {b = b} {d = d} A B D ea eb ed h P =
    let n = i.height * i.pitch in
    record {
      first = omega (arith, ea, row_in 0 a n h.first);
      second = omega (arith, ea, eb, row_in a b n h.across);
      third = omega (arith, eb, ed, row_in b d n h.below);
      inside = omega (arith, ed, row_in d (d + 1) n (omega arith), P.inside);
    }

pub once_planes : (i : Interp) (a b d A B D : ℕ) → A ≡ plane_at i a → B ≡ plane_at i b → D ≡ plane_at i d → (c : List ℕ) → c ▷ pair_plane i A 0 1 ▷ pair_plane i B 0 i.pitch ▷ copy_run 0 B i.width ▷ pair_plane i D 0 (i.pitch + 1) ▷ copy_run 1 D i.width ≡ mean_planes i a b d c
unfolding mean_planes
once_planes i a b d A B D ea eb ed c = rw (ea, eb, ed)
