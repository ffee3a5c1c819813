-- Laws of the canvas: what is read of two lists one after the other, and what is stored in them; last stages of a canvas, and loops over one. Assumes nothing.
use mathlib.Core.Path.{◌≡◌, refl, sym, ap, ◌∙◌, subst}
use mathlib.Core.List.{List, [], ◌++◌, append_assoc, append-nil}
use mathlib.Core.Logic.{⊎_elim}
use Prim.Native.Nat.{ℕ, ◌+◌, ◌-◌, ◌≤◌, ◌<◌, max}
use native.Mathlib.Omega.{arith}
use lib.ListN.{length, get_or, take, drop, replicate, length-append, length-take, length-drop, length-replicate, get_or-replicate, take-append-drop, drop_of_length-le, get_or-append, get_or-eq_default}
use lib.Seq.{take_at, drop_at, take_all, get_or-take, get_or-drop, get_or-append-add, length-take-le, take-append-le, drop-append-le, take-append-add, drop-append-add}
use Rattle.filters.proofs.Tests.{below_or}
use Rattle.filters.proofs.Tables.{tab_length, tab_at, is_tab}
use Rattle.layouts.specs.Storing.{put, steps}
use Rattle.layouts.proofs.Loops.{put_plain, put_lent, steps_next}
use Rattle.builder.specs.declared.canvas.Canvas.{Canvas}
use Rattle.builder.specs.Canvas.{fetch, bytes_of, Staged}

second_at : (a b : List ℕ) (i k : ℕ) → i ≡ length a + k → get_or (a ++ b) i 0 ≡ get_or b k 0
second_at a b i k e = ap (λ (j : ℕ). get_or (a ++ b) j 0) e ∙ get_or-append-add a b k 0

-- ---- fetch
pub fetch_length : (c : List ℕ) (at n : ℕ) → length (fetch c at n) ≡ n
unfolding fetch
fetch_length c at n = tab_length _ n

pub fetch_at : (c : List ℕ) (at n i : ℕ) → i < n → get_or (fetch c at n) i 0 ≡ get_or c (at + i) 0
unfolding fetch
fetch_at c at n i h = tab_at _ n i h ∙ get_or-drop at c i 0

pub is_fetch : (l c : List ℕ) (at n : ℕ) → length l ≡ n → ((i : ℕ) → i < n → get_or l i 0 ≡ get_or c (at + i) 0) → l ≡ fetch c at n
unfolding fetch
is_fetch l c at n e same = is_tab l (λ i. get_or (drop at c) i 0) n e (λ i h. same i h ∙ sym (get_or-drop at c i 0))

-- a part of the list
pub fetch_part : (c : List ℕ) (at n : ℕ) → at + n ≤ length c → take n (drop at c) ≡ fetch c at n
fetch_part c at n fits = is_fetch (take n (drop at c)) c at n (length-take n (drop at c) ∙ omega (arith, length-drop at c)) (λ i h. get_or-take n (drop at c) i 0 h ∙ get_or-drop at c i 0)

pub fetch_past : (c : List ℕ) (at n : ℕ) → length c ≤ at → replicate n 0 ≡ fetch c at n
fetch_past c at n past = is_fetch (replicate n 0) c at n (length-replicate n 0) (λ i h. get_or-replicate n i 0 0 h ∙ sym (get_or-eq_default c 0 (omega arith)))

-- two runs, one after the other
pub fetch_two : (c : List ℕ) (at m n : ℕ) → fetch c at m ++ fetch c (at + m) n ≡ fetch c at (m + n)
fetch_two c at m n =
    let a = fetch c at m in
    let b = fetch c (at + m) n in
    let la = fetch_length c at m in
    is_fetch (a ++ b) c at (m + n) (length-append a b ∙ omega (arith, la, fetch_length c (at + m) n))
    (λ i h.
    ⊎_elim
    (λ (lt : i < m). get_or-append a b 0 i (omega (arith, la)) ∙ fetch_at c at m i lt)
    (λ (le : m ≤ i).
    let back : at + m + (i - m) ≡ at + i = omega arith in
    second_at a b i (i - m) (omega (arith, la)) ∙ fetch_at c (at + m) n (i - m) (omega arith) ∙ ap (λ (k : ℕ). get_or c k 0) back)
    (below_or i m))

-- ---- of two lists
pub fetch_left : (F S : List ℕ) (at n : ℕ) → at + n ≤ length F → fetch F at n ≡ fetch (F ++ S) at n
fetch_left F S at n fits = is_fetch (fetch F at n) (F ++ S) at n (fetch_length F at n) (λ i h. fetch_at F at n i h ∙ sym (get_or-append F S 0 (at + i) (omega arith)))

pub fetch_right : (F S : List ℕ) (at n : ℕ) → length F ≤ at → fetch S (at - length F) n ≡ fetch (F ++ S) at n
fetch_right F S at n past =
    is_fetch (fetch S (at - length F) n) (F ++ S) at n (fetch_length S (at - length F) n)
    (λ i h. fetch_at S (at - length F) n i h ∙ sym (second_at F S (at + i) (at - length F + i) (omega arith)))

-- a run of n bytes that leaves F after k of them
module _ (F S : List ℕ) (at k n : ℕ) (seam : at + k ≡ length F) (long : k ≤ n) where
  pub fetch_over : take k (drop at F) ++ fetch S 0 (n - k) ≡ fetch (F ++ S) at n
  fetch_over =
      let first = fetch_part F at k (omega arith) ∙ fetch_left F S at k (omega arith) in
      let zero' : at + k - length F ≡ 0 = omega arith in
      let second = ap (λ (j : ℕ). fetch S j (n - k)) (sym zero') ∙ fetch_right F S (at + k) (n - k) (omega arith) in
      let whole : k + (n - k) ≡ n = omega arith in
      ap (λ (l : List ℕ). l ++ fetch S 0 (n - k)) first
      ∙ ap (λ (l : List ℕ). fetch (F ++ S) at k ++ l) second
      ∙ fetch_two (F ++ S) at k (n - k)
      ∙ ap (fetch (F ++ S) at) whole

  pub fetch_end : take k (drop at F) ++ replicate (n - k) 0 ≡ fetch F at n
  fetch_end =
      let first = fetch_part F at k (omega arith) in
      let whole : k + (n - k) ≡ n = omega arith in
      ap (λ (l : List ℕ). l ++ replicate (n - k) 0) first
      ∙ ap (λ (l : List ℕ). fetch F at k ++ l) (fetch_past F (at + k) (n - k) (omega arith))
      ∙ fetch_two F at k (n - k)
      ∙ ap (fetch F at) whole

-- ---- a run that is cut in two: its front was lent and came back as l, then its rest and came back as m
module _ (out l m : List ℕ) (k : ℕ) (fits : k ≤ length out) (front : length l ≡ k) where
  back : List ℕ
  back = l ++ drop k out

  drop_front : drop k back ≡ drop k out
  unfolding back
  drop_front = drop_at l (drop k out) k front

  back_length : length back ≡ length out
  unfolding back
  back_length = length-append l (drop k out) ∙ omega (arith, length-drop k out)

  pub rest_length : length (take (length (l ++ drop k out) - k) (drop k (l ++ drop k out))) ≡ length out - k
  unfolding back
  rest_length = length-take (length back - k) (drop k back) ∙ omega (arith, back_length, ap length drop_front, length-drop k out)

  pub two_parts : take k (l ++ drop k out) ++ (m ++ drop (length (l ++ drop k out) - k) (drop k (l ++ drop k out))) ≡ l ++ m
  unfolding back
  two_parts =
      let none : length (drop k back) ≤ length back - k = omega (arith, back_length, ap length drop_front, length-drop k out) in
      ap (λ (x : List ℕ). x ++ (m ++ drop (length back - k) (drop k back))) (take_at l (drop k out) k front)
      ∙ ap (λ (x : List ℕ). l ++ (m ++ x)) (drop_of_length-le (drop k back) none)
      ∙ ap (λ (x : List ℕ). l ++ x) (append-nil m)

-- its front was copied from c
module _ (c out l : List ℕ) (at k : ℕ) (seam : at + k ≡ length c) (fits : k ≤ length out) (copied : l ≡ take (length (take k out)) (take k (drop at c))) where
  copy_length : length (take k (drop at c)) ≡ k
  copy_length = length-take k (drop at c) ∙ omega (arith, length-drop at c)

  copy_front : l ≡ take k (drop at c)
  copy_front = copied ∙ take_all (length (take k out)) (take k (drop at c)) (omega (arith, copy_length, length-take-le k out fits))

  copy_fits : length l ≡ k
  copy_fits = ap length copy_front ∙ copy_length

  pub read_cut : (m : List ℕ) → m ≡ replicate (length (take (length (l ++ drop k out) - k) (drop k (l ++ drop k out)))) 0 → take k (l ++ drop k out) ++ (m ++ drop (length (l ++ drop k out) - k) (drop k (l ++ drop k out))) ≡ fetch c at (length out)
  read_cut m e =
      two_parts out l m k fits copy_fits
      ∙ ap (λ (x : List ℕ). l ++ x) (e ∙ ap (λ (j : ℕ). replicate j 0) (rest_length out l m k fits copy_fits))
      ∙ ap (λ (x : List ℕ). x ++ replicate (length out - k) 0) copy_front
      ∙ fetch_end c [] at k (length out) seam fits

  pub fetch_cut : (S m : List ℕ) → m ≡ fetch S 0 (length (take (length (l ++ drop k out) - k) (drop k (l ++ drop k out)))) → take k (l ++ drop k out) ++ (m ++ drop (length (l ++ drop k out) - k) (drop k (l ++ drop k out))) ≡ fetch (c ++ S) at (length out)
  fetch_cut S m e =
      two_parts out l m k fits copy_fits
      ∙ ap (λ (x : List ℕ). l ++ x) (e ∙ ap (fetch S 0) (rest_length out l m k fits copy_fits))
      ∙ ap (λ (x : List ℕ). x ++ fetch S 0 (length out - k)) copy_front
      ∙ fetch_over c S at k (length out) seam fits

-- the whole run was copied from c, whose bytes from at on were lent
pub copy_whole : (c out l : List ℕ) (at : ℕ) → at + length out ≤ length c → l ≡ take (length out) (take (length c - at) (drop at c)) → l ≡ fetch c at (length out)
copy_whole c out l at fits e =
    e ∙ ap (take (length out)) (take_all (length c - at) (drop at c) (omega (arith, length-drop at c))) ∙ fetch_part c at (length out) fits

-- ---- put
-- a run stored past a list makes it longer, and no later one makes it shorter: where a list is as long after all stores as before, each lay inside it
pub put_reaches : (c : List ℕ) (at : ℕ) (ys : List ℕ) → length (put c at ys) ≡ max (length c) (at + length ys)
unfolding put
put_reaches c at ys = simp (length-append, length-take, length-drop) (omega (arith, length-replicate {A = ℕ} (at - length c) 0))

pub put_length : (c : List ℕ) (at : ℕ) (ys : List ℕ) → at + length ys ≤ length c → length (put c at ys) ≡ length c
put_length c at ys fits = put_reaches c at ys ∙ omega arith

-- the part from at on, as long as ys, was lent and came back as a copy of ys
pub put_part : (c ys l : List ℕ) (at : ℕ) → at + length ys ≤ length c → l ≡ take (length (take (at + length ys - at) (drop at c))) ys → take at c ++ (l ++ drop (at + length ys - at) (drop at c)) ≡ put c at ys
put_part c ys l at fits e =
    let n : at + length ys - at ≡ length ys = omega arith in
    let long : length ys ≤ length (take (at + length ys - at) (drop at c)) = omega (arith, length-take (at + length ys - at) (drop at c), length-drop at c) in
    ap (λ (x : List ℕ). take at c ++ (x ++ drop (at + length ys - at) (drop at c))) (e ∙ take_all (length (take (at + length ys - at) (drop at c))) ys long)
    ∙ put_lent c ys at (at + length ys - at) (sym n) (omega arith)

-- what is read of a list after ys was stored, wherever the list ended: before it, itself, and past it
pub put_grows : (c : List ℕ) (at : ℕ) (ys : List ℕ) → length c ≤ length (put c at ys)
put_grows c at ys = omega (arith, put_reaches c at ys)

head_at : (c : List ℕ) (at : ℕ) → length (take at c) + length (replicate {A = ℕ} (at - length c) 0) ≡ at
head_at c at = omega (arith, length-take at c, length-replicate {A = ℕ} (at - length c) 0)

pub put_before : (c ys : List ℕ) (at k : ℕ) → k < at → get_or (put c at ys) k 0 ≡ get_or c k 0
unfolding put
put_before c ys at k lt =
    let gap : List ℕ = replicate (at - length c) 0 in
    let run = ys ++ drop (length ys) (drop at c) in
    ⊎_elim
    (λ (in' : k < length c). get_or-append (take at c) (gap ++ run) 0 k (omega (arith, length-take at c)) ∙ get_or-take at c k 0 lt)
    (λ (le : length c ≤ k).
    second_at (take at c) (gap ++ run) k (k - length c) (omega (arith, length-take at c))
    ∙ get_or-append gap run 0 (k - length c) (omega (arith, length-replicate {A = ℕ} (at - length c) 0))
    ∙ get_or-replicate (at - length c) (k - length c) 0 0 (omega arith)
    ∙ sym (get_or-eq_default c 0 le))
    (below_or k (length c))

pub put_at : (c ys : List ℕ) (at i : ℕ) → i < length ys → get_or (put c at ys) (at + i) 0 ≡ get_or ys i 0
unfolding put
put_at c ys at i lt =
    let gap : List ℕ = replicate (at - length c) 0 in
    let rest = drop (length ys) (drop at c) in
    second_at (take at c) (gap ++ (ys ++ rest)) (at + i) (length gap + i) (omega (arith, head_at c at))
    ∙ get_or-append-add gap (ys ++ rest) i 0
    ∙ get_or-append ys rest 0 i lt

pub put_past : (c ys : List ℕ) (at k : ℕ) → at + length ys ≤ k → get_or (put c at ys) k 0 ≡ get_or c k 0
unfolding put
put_past c ys at k le =
    let gap : List ℕ = replicate (at - length c) 0 in
    let rest = drop (length ys) (drop at c) in
    let j = k - at - length ys in
    second_at (take at c) (gap ++ (ys ++ rest)) k (length gap + (k - at)) (omega (arith, head_at c at))
    ∙ get_or-append-add gap (ys ++ rest) (k - at) 0
    ∙ second_at ys rest (k - at) j (omega arith)
    ∙ get_or-drop (length ys) (drop at c) j 0
    ∙ get_or-drop at c (length ys + j) 0
    ∙ ap (λ (i : ℕ). get_or c i 0) (omega arith)

pub fetch_before : (c ys : List ℕ) (at s n : ℕ) → s + n ≤ at → fetch (put c at ys) s n ≡ fetch c s n
fetch_before c ys at s n lt =
    is_fetch (fetch (put c at ys) s n) c s n (fetch_length (put c at ys) s n)
    (λ i h. fetch_at (put c at ys) s n i h ∙ put_before c ys at (s + i) (omega arith))

pub fetch_stored : (c ys : List ℕ) (at n : ℕ) → length ys ≡ n → fetch (put c at ys) at n ≡ ys
fetch_stored c ys at n e = sym (is_fetch ys (put c at ys) at n e (λ i h. sym (put_at c ys at i (omega arith))))

-- ---- in two lists
pub put_left : (F S ys : List ℕ) (at : ℕ) → at + length ys ≤ length F → put F at ys ++ S ≡ put (F ++ S) at ys
put_left F S ys at fits =
    let rest : length ys ≤ length (drop at F) = omega (arith, length-drop at F) in
    ap (λ (l : List ℕ). l ++ S) (put_plain F at ys (omega arith))
    ∙ append_assoc (take at F) (ys ++ drop (length ys) (drop at F)) S
    ∙ ap (λ (l : List ℕ). take at F ++ l) (append_assoc ys (drop (length ys) (drop at F)) S)
    ∙ sym
    (put_plain (F ++ S) at ys (omega (arith, length-append F S))
    ∙ rw (take-append-le at F S (omega arith), drop-append-le at F S (omega arith), drop-append-le (length ys) (drop at F) S rest))

pub put_right : (F S ys : List ℕ) (j : ℕ) → j ≤ length S → F ++ put S j ys ≡ put (F ++ S) (length F + j) ys
put_right F S ys j le =
    ap (λ (l : List ℕ). F ++ l) (put_plain S j ys le)
    ∙ sym (append_assoc F (take j S) (ys ++ drop (length ys) (drop j S)))
    ∙ sym (put_plain (F ++ S) (length F + j) ys (omega (arith, length-append F S)) ∙ rw (take-append-add F S j, drop-append-add F S j))

-- ys reaches over the end of F by the bytes from k on
pub put_over : (F S ys : List ℕ) (at k : ℕ) → at + k ≡ length F → k ≤ length ys → put F at (take k ys) ++ put S 0 (drop k ys) ≡ put (F ++ S) at ys
put_over F S ys at k seam long =
    let la : length (drop at F) ≡ k = length-drop at F ∙ omega arith in
    let lk : length (take k ys) ≡ k = length-take-le k ys long in
    let all : length (drop at F) ≤ length (take k ys) = omega (arith, la, lk) in
    let ld : length ys ≡ length (drop at F) + length (drop k ys) = omega (arith, la, length-drop k ys) in
    let b = drop k ys ++ drop (length (drop k ys)) S in
    ap (λ (l : List ℕ). l ++ put S 0 (drop k ys)) (put_plain F at (take k ys) (omega arith))
    ∙ ap (λ (l : List ℕ). (take at F ++ (take k ys ++ drop (length (take k ys)) (drop at F))) ++ l) (put_plain S 0 (drop k ys) (omega arith))
    ∙ ap (λ (l : List ℕ). (take at F ++ l) ++ b) (ap (λ (l : List ℕ). take k ys ++ l) (drop_of_length-le (drop at F) all) ∙ append-nil (take k ys))
    ∙ append_assoc (take at F) (take k ys) b
    ∙ ap (λ (l : List ℕ). take at F ++ l) (sym (append_assoc (take k ys) (drop k ys) (drop (length (drop k ys)) S)))
    ∙ ap (λ (l : List ℕ). take at F ++ (l ++ drop (length (drop k ys)) S)) (take-append-drop k ys)
    ∙ ap (λ (l : List ℕ). take at F ++ (ys ++ l)) (sym (drop-append-add (drop at F) S (length (drop k ys))))
    ∙ ap (λ (m : ℕ). take at F ++ (ys ++ drop m (drop at F ++ S))) (sym ld)
    ∙ sym
    (put_plain (F ++ S) at ys (omega (arith, length-append F S))
    ∙ rw (take-append-le at F S (omega arith), drop-append-le at F S (omega arith)))

-- the same, where ys was cut and its rest lent
pub store_cut : (F S ys l m : List ℕ) (at : ℕ) → at ≤ length F → length F - at ≤ length ys → l ≡ put F at (take (length F - at) ys) → m ≡ put S 0 (take (length ys - (length F - at)) (drop (length F - at) ys)) → l ++ m ≡ put (F ++ S) at ys
store_cut F S ys l m at low long e f =
    let k = length F - at in
    ap (λ (x : List ℕ). x ++ m) e
    ∙ ap (λ (x : List ℕ). put F at (take k ys) ++ x) (f ∙ ap (put S 0) (take_all (length ys - k) (drop k ys) (omega (arith, length-drop k ys))))
    ∙ put_over F S ys at k (omega arith) long

-- ---- stages of a canvas
pub staged_none : {c : Canvas} → Staged (λ d. d) c c
staged_none = record { bytes = refl; frame_long = refl; spill_long = refl; frame_name = refl; spill_name = refl }

pub staged_then : {f g : List ℕ → List ℕ} {c d e : Canvas} → Staged f c d → Staged g d e → Staged (λ x. g (f x)) c e
staged_then {f} {g} s t =
    record {
      bytes = t.bytes ∙ ap g s.bytes;
      frame_long = t.frame_long ∙ s.frame_long;
      spill_long = t.spill_long ∙ s.spill_long;
      frame_name = t.frame_name ∙ s.frame_name;
      spill_name = t.spill_name ∙ s.spill_name;
    }

-- the same stage, otherwise written
pub staged_as : {f g : List ℕ → List ℕ} {c d : Canvas} → Staged f c d → f (bytes_of c) ≡ g (bytes_of c) → Staged g c d
staged_as s e = record { bytes = s.bytes ∙ e; frame_long = s.frame_long; spill_long = s.spill_long; frame_name = s.frame_name; spill_name = s.spill_name }

-- what a loop over rows, planes or levels knows at its head
pub record Passed (step : ℕ → List ℕ → List ℕ) (c₀ c : Canvas) (h y : ℕ) : Type 0 where
  pub most : y ≤ h
  pub staged : Staged (steps step y) c₀ c

pub passed_none : {step : ℕ → List ℕ → List ℕ} {c : Canvas} {h : ℕ} → Passed step c c h 0
unfolding steps
passed_none = record { most = omega arith; staged = staged_none }

pub passed_more : {step : ℕ → List ℕ → List ℕ} {c₀ c c' : Canvas} {h y : ℕ} → Passed step c₀ c h y → y < h → Staged (step y) c c' → Passed step c₀ c' h (y + 1)
passed_more {step} {c₀} {y = y} w lt s =
    record { most = omega arith; staged = staged_as (staged_then w.staged s) (sym (steps_next step y (bytes_of c₀))) }

-- a loop that counts from 1
pub passed_next : (step : ℕ → List ℕ → List ℕ) {c₀ c c' : Canvas} {h y : ℕ} → 1 ≤ y → Passed (λ i. step (i + 1)) c₀ c (h - 1) (y - 1) → y < h → Staged (step y) c c' → Passed (λ i. step (i + 1)) c₀ c' (h - 1) (y + 1 - 1)
passed_next step {c₀} {c} {c'} {h} {y} some w lt s =
    let here : y ≡ y - 1 + 1 = omega arith in
    let next : y - 1 + 1 ≡ y + 1 - 1 = omega arith in
    subst (λ (k : ℕ). Passed (λ i. step (i + 1)) c₀ c' (h - 1) k) next (passed_more w (omega arith) (subst (λ (k : ℕ). Staged (step k) c c') here s))

pub passed_whole : {step : ℕ → List ℕ → List ℕ} {c₀ c : Canvas} {h y : ℕ} → Passed step c₀ c h y → h ≤ y → Staged (steps step h) c₀ c
passed_whole {step} {c₀} {c} {h = h} {y = y} w le = let e : y ≡ h = omega arith in subst (λ (k : ℕ). Staged (steps step k) c₀ c) e w.staged
