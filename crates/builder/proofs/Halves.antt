-- A later level inside the frame: a row halved in its place, and a row of the fused cubic. Assumes nothing.
use mathlib.Core.Path.{◌≡◌, refl, sym, ap, ◌∙◌}
use mathlib.Core.List.{List, ◌++◌, append_assoc}
use Prim.Native.Nat.{ℕ, ◌+◌, ◌*◌, ◌-◌, ◌≤◌, ◌<◌}
use native.Mathlib.Nat.{add-sub_cancel_left}
use native.Mathlib.Omega.{arith}
use lib.ListN.{length, take, drop, replicate, length-append, length-drop, length-replicate}
use lib.Seq.{take_at, drop_at, length-take-le, drop-append-le, drop-drop}
use Rattle.filters.specs.declared.halving.ReduceFilter.{ReduceFilter}
use Rattle.filters.specs.declared.halving.ReduceFilter.TheVariants.{Cubic}
use Rattle.filters.specs.Halve.{headed, horizontal_row}
use Rattle.filters.specs.Inner.{Apart, reduced_apart}
use Rattle.filters.proofs.Pairs.{reduced_apart_lem}
use Rattle.filters.proofs.Lengths.{horizontal_length}
use Rattle.layouts.specs.Storing.{put}
use Rattle.layouts.specs.declared.layout.Region.{Region}
use Rattle.layouts.proofs.Loops.{put_plain, put_none, put_lent, row_in}
use Rattle.builder.specs.Canvas.{fetch}
use Rattle.builder.specs.Room.{Source, Within}
use Rattle.builder.specs.Halving.{halve_run, fused_line}
use Rattle.builder.proofs.Runs.{fetch_length, fetch_stored, put_grows, put_right}

-- the part for the halved row was lent, and came back as l
pub halve_lent : (f : ReduceFilter) (w at : ℕ) (c l split row : List ℕ) → 1 ≤ w → at + 2 * w ≤ length c → row ≡ fetch c at (2 * w) → Apart w w (headed row) split → l ≡ reduced_apart f (length (take (at + w - at) (drop at c))) split → take at c ++ (l ++ drop (at + w - at) (drop at c)) ≡ halve_run f w at c
unfolding halve_run
halve_lent f w at c l split row some fits is apart e =
    let k : at + w - at ≡ w = add-sub_cancel_left at w in
    let long : length (take (at + w - at) (drop at c)) ≡ w = ap (λ (n : ℕ). length (take n (drop at c))) k ∙ length-take-le w (drop at c) (omega (arith, length-drop at c)) in
    let wide : 2 * w ≤ length row = omega (arith, ap length is, fetch_length c at (2 * w)) in
    let h = e ∙ ap (λ (n : ℕ). reduced_apart f n split) long ∙ reduced_apart_lem f row some wide apart ∙ ap (horizontal_row f w) is in
    put_lent c l at (at + w - at) (ap length h ∙ horizontal_length f w (fetch c at (2 * w)) ∙ sym k) (omega arith) ∙ ap (put c at) h

-- nothing is stored after it
pub halve_alone : (f : ReduceFilter) (w at : ℕ) (c : List ℕ) → at + 2 * w ≤ length c → put (halve_run f w at c) (at + 2 * w) (replicate (at + 2 * w - (at + 2 * w)) 0) ≡ halve_run f w at c
unfolding halve_run
halve_alone f w at c fits =
    let grown = put_grows c at (horizontal_row f w (fetch c at (2 * w))) in
    put_none _ (at + 2 * w) (at + 2 * w - (at + 2 * w)) (omega arith) (omega arith)

-- ---- runs stored in one another
module _ (c ys : List ℕ) (at : ℕ) (fits : at + length ys ≤ length c) where
  front : length (take at c) ≡ at
  front = length-take-le at c (omega arith)

  at_front : (x : List ℕ) (j : ℕ) → j ≤ length (ys ++ drop (length ys) (drop at c)) → put (put c at ys) (at + j) x ≡ take at c ++ put (ys ++ drop (length ys) (drop at c)) j x
  at_front x j le =
      let r = ys ++ drop (length ys) (drop at c) in
      ap (λ (l : List ℕ). put l (at + j) x) (put_plain c at ys (omega arith))
      ∙ ap (λ (k : ℕ). put (take at c ++ r) (k + j) x) (sym front)
      ∙ sym (put_right (take at c) r x j le)

  -- its front stored again
  pub put_again : (x : List ℕ) → length x ≤ length ys → put (put c at ys) at x ≡ put c at (x ++ drop (length x) ys)
  put_again x le =
      let r = drop (length ys) (drop at c) in
      let z : at + 0 ≡ at = omega arith in
      let long : length (x ++ drop (length x) ys) ≡ length ys = length-append x (drop (length x) ys) ∙ omega (arith, length-drop (length x) ys) in
      ap (λ (k : ℕ). put (put c at ys) k x) (sym z)
      ∙ at_front x 0 (omega arith)
      ∙ ap (λ (l : List ℕ). take at c ++ l) (put_plain (ys ++ r) 0 x (omega arith) ∙ ap (λ (l : List ℕ). x ++ l) (drop-append-le (length x) ys r le) ∙ sym (append_assoc x (drop (length x) ys) r))
      ∙ ap (λ (k : ℕ). take at c ++ ((x ++ drop (length x) ys) ++ drop k (drop at c))) (sym long)
      ∙ sym (put_plain c at (x ++ drop (length x) ys) (omega arith))

  -- a run stored after it
  pub put_after : (x : List ℕ) → put (put c at ys) (at + length ys) x ≡ put c at (ys ++ x)
  put_after x =
      let r = drop (length ys) (drop at c) in
      at_front x (length ys) (omega (arith, length-append ys r))
      ∙ ap (λ (l : List ℕ). take at c ++ l)
      (put_plain (ys ++ r) (length ys) x (omega (arith, length-append ys r))
      ∙ ap (λ (l : List ℕ). l ++ (x ++ drop (length x) (drop (length ys) (ys ++ r)))) (take_at ys r (length ys) refl)
      ∙ ap (λ (l : List ℕ). ys ++ (x ++ drop (length x) l)) (drop_at ys r (length ys) refl)
      ∙ sym (append_assoc ys x (drop (length x) r))
      ∙ ap (λ (l : List ℕ). (ys ++ x) ++ l) (drop-drop (length x) (length ys) (drop at c)))
      ∙ ap (λ (k : ℕ). take at c ++ ((ys ++ x) ++ drop k (drop at c))) (sym (length-append ys x))
      ∙ sym (put_plain c at (ys ++ x) (omega arith))

-- a row of the fused cubic: its vertical values stored, halved in their place, and zeros after them
pub fused_run : (p w at : ℕ) (c v : List ℕ) → length v ≡ 2 * w → 2 * w ≤ p → at + p ≤ length c → put (halve_run Cubic w at (put c at v)) (at + 2 * w) (replicate (p - 2 * w) 0) ≡ put c at (fused_line p w v)
unfolding halve_run
fused_run p w at c v long wide fits =
    let z = replicate {A = ℕ} (p - 2 * w) 0 in
    let h = horizontal_row Cubic w v in
    let lh : length h ≡ w = horizontal_length Cubic w v in
    let row = h ++ drop w v in
    let lr : length row ≡ 2 * w = length-append h (drop w v) ∙ omega (arith, length-drop w v) in
    let read : fetch (put c at v) at (2 * w) ≡ v = fetch_stored c v at (2 * w) long in
    ap (λ (x : List ℕ). put (put (put c at v) at (horizontal_row Cubic w x)) (at + 2 * w) z) read
    ∙ ap (λ (x : List ℕ). put x (at + 2 * w) z) (put_again c v at (omega arith) h (omega arith) ∙ ap (λ (k : ℕ). put c at (h ++ drop k v)) lh)
    ∙ ap (λ (k : ℕ). put (put c at row) (at + k) z) (sym lr)
    ∙ put_after c row at (omega arith) z
    ∙ ap (put c at) (append_assoc h (drop w v) z)

pub fused_length : (p w : ℕ) (v : List ℕ) → 2 * w ≤ p → length v ≡ 2 * w → length (fused_line p w v) ≡ p
fused_length p w v fits e =
    let z = replicate {A = ℕ} (p - 2 * w) 0 in
    length-append (horizontal_row Cubic w v) (drop w v ++ z)
    ∙ omega (arith, horizontal_length Cubic w v, length-append (drop w v) z, length-drop w v, length-replicate {A = ℕ} (p - 2 * w) 0)

-- ---- what a target that lies in the frame gives
pub row_within : {len scratch base p : ℕ} {t : Region} {y : ℕ} → Within len scratch base p t → y < t.height → t.offset + y * p + p ≤ len
row_within {p = p} {t = t} {y = y} w lt = omega (arith, w.target, row_in y t.height p lt)

pub source_within : {len scratch base p : ℕ} {t : Region} {n : ℕ} → Within len scratch base p t → n ≡ 2 * t.width → Source len base p n t.height
source_within {p = p} {t = t} w e = record { rows = omega (arith, w.source, w.target, w.fits, row_in 0 t.height p (let some : 0 < t.height = omega (arith, w.high) in some)) }

-- and before it is halved, in the frame and in scratch
pub halves_within : {len scratch base p : ℕ} {t : Region} {y : ℕ} → Within len scratch base p t → y < t.height → t.offset + y * p + 2 * t.width ≤ len
halves_within w lt = omega (arith, row_within w lt, w.fits)
