-- One row of a later level before it is halved: the rows that it reads lie in the source, and others have no effect; last all that it reads, for whatever is known of it. Assumes nothing.
use mathlib.Core.Path.{◌≡◌, refl, sym, ap, ◌∙◌}
use mathlib.Core.Bool.{Bool, true, false, cond, ◌&&◌}
use mathlib.Core.List.{List, ◌++◌, append-nil}
use Prim.Native.Nat.{ℕ, zero, suc, ◌+◌, ◌*◌, ◌-◌, ◌/◌, ◌≤◌, ◌<◌, min}
use native.Mathlib.Nat.{mul-le-mul_right, add-mul, one-mul}
use native.Mathlib.Omega.{arith}
use lib.Dec.{leb, eqb}
use borrow.Author.Tests.{leb-false}
use lib.ListN.{length, take, drop, length-append, drop_of_length-le}
use lib.Seq.{length-take-le}
use mathlib.Core.Logic.{◌⊎◌, inl, inr, ⊎_elim}
use Rattle.settings.proofs.Tests.{or_false_right}
use Rattle.filters.specs.declared.halving.ReduceFilter.{ReduceFilter}
use Rattle.filters.specs.declared.halving.ReduceFilter.TheVariants.{Average, Bilinear, Quadratic, Cubic}
use Rattle.filters.specs.Halve.{last_row, first_row, last_is_mean, is_edge, weigh, rest_of}
use Rattle.filters.specs.Row.{Six, tab, means_of, sixes}
use Rattle.filters.proofs.Kernels.{rows_read}
use Rattle.filters.proofs.Lengths.{means_length, sixes_length}
use Rattle.layouts.proofs.Loops.{row_in}
use Rattle.builder.specs.Halving.{whole_of, whole_line, rest_line, inner_line, vertical_line}
use Rattle.builder.specs.Canvas.{fetch}
use Rattle.builder.specs.Room.{Source}
use Rattle.builder.proofs.Runs.{two_parts, rest_length}

-- ---- how far a filter reads
last_near : (f : ReduceFilter) (sp : ℕ) → (sp ≤ last_row f * sp) × (min (last_row f) 2 * sp ≤ last_row f * sp)
last_near Average sp = (omega arith, omega arith)
last_near Bilinear sp = (omega arith, omega arith)
last_near Quadratic sp = (omega arith, omega arith)
last_near Cubic sp = (omega arith, omega arith)

first_is : (f : ReduceFilter) → 2 ≤ first_row f → first_row f ≡ 2
first_is Average le = absurd (omega arith)
first_is Bilinear le = absurd (omega arith)
first_is Quadratic le = refl
first_is Cubic le = refl

second_is : (f : ReduceFilter) → 2 ≤ last_row f → min (last_row f) 2 ≡ 2
second_is Average le = absurd (omega arith)
second_is Bilinear le = refl
second_is Quadratic le = refl
second_is Cubic le = refl

last_is : (f : ReduceFilter) → 3 ≤ last_row f → last_row f ≡ 3
last_is Average le = absurd (omega arith)
last_is Bilinear le = absurd (omega arith)
last_is Quadratic le = refl
last_is Cubic le = refl

-- the columns by rows alone, from the rows that the filter reads
pub whole_read : (f : ReduceFilter) (n : ℕ) (s : List ℕ) (at sp : ℕ) {first second last : ℕ} {m2 m1 c0 p1 p2 p3 : List ℕ} → first ≡ first_row f → second ≡ min last 2 → last ≡ last_row f → m2 ≡ fetch s (at - first * sp) n → m1 ≡ fetch s (at - sp) n → c0 ≡ fetch s at n → p1 ≡ fetch s (at + sp) n → p2 ≡ fetch s (at + second * sp) n → p3 ≡ fetch s (at + last * sp) n → sixes (weigh f) n m2 m1 c0 p1 p2 p3 ≡ whole_line f n s at sp
unfolding whole_line
whole_read f n s at sp {first} {second} {last} {m2} {m1} {c0} {p1} {p2} {p3} ef es el e2 e1 e0 d1 d2 d3 =
    rw (e1, e0, d1)
    (rows_read f n (fetch s (at - sp) n) (fetch s at n) (fetch s (at + sp) n)
    (λ le. e2 ∙ ap (λ (k : ℕ). fetch s (at - k * sp) n) (ef ∙ first_is f le))
    (λ le. d2 ∙ ap (λ (k : ℕ). fetch s (at + k * sp) n) (es ∙ ap (λ (k : ℕ). min k 2) el ∙ second_is f le))
    (λ le. d3 ∙ ap (λ (k : ℕ). fetch s (at + k * sp) n) (el ∙ last_is f le)))

-- ---- the other columns
pub sixes_same : (k : Six) (n : ℕ) {m2 m1 c0 p1 p2 p3 x2 x1 x0 y1 y2 y3 : List ℕ} → m2 ≡ x2 → m1 ≡ x1 → c0 ≡ x0 → p1 ≡ y1 → p2 ≡ y2 → p3 ≡ y3 → sixes k n m2 m1 c0 p1 p2 p3 ≡ sixes k n x2 x1 x0 y1 y2 y3
sixes_same k n a b c d e f = cc

-- ---- the row
pub line_edge : (f : ReduceFilter) (whole n h : ℕ) (s : List ℕ) (base sp y : ℕ) {a b : List ℕ} → is_edge f y h ≡ true → a ≡ fetch s (base + y * (2 * sp)) n → b ≡ fetch s (base + y * (2 * sp) + sp) n → means_of n a b ≡ vertical_line f whole n h s base sp y
unfolding vertical_line
line_edge f whole n h s base sp y e p q = rw (e, p, q)

pub line_inner : (f : ReduceFilter) (whole n h : ℕ) (s : List ℕ) (base sp y : ℕ) → is_edge f y h ≡ false → inner_line f whole n s (base + y * (2 * sp)) sp ≡ vertical_line f whole n h s base sp y
unfolding vertical_line
line_inner f whole n h s base sp y e = rw e

pub whole_length : (f : ReduceFilter) (n : ℕ) (s : List ℕ) (at sp : ℕ) → length (whole_line f n s at sp) ≡ n
unfolding whole_line
whole_length f n s at sp = sixes_length (weigh f) n _ _ _ _ _ _

rest_line_length : (n : ℕ) (s : List ℕ) (x sp : ℕ) → length (rest_line n s x sp) ≡ n
unfolding rest_line
rest_line_length n s x sp = sixes_length rest_of n _ _ _ _ _ _

inner_length : (f : ReduceFilter) (whole n : ℕ) (s : List ℕ) (at sp : ℕ) → whole ≤ n → length (inner_line f whole n s at sp) ≡ n
unfolding inner_line
inner_length f whole n s at sp le =
    length-append (whole_line f whole s at sp) (rest_line (n - whole) s (at + whole) sp)
    ∙ omega (arith, whole_length f whole s at sp, rest_line_length (n - whole) s (at + whole) sp)

-- the row was lent up to column k, and came back as l
module _ (f : ReduceFilter) (s : List ℕ) (at sp : ℕ) (out l : List ℕ) (k : ℕ) (is : k ≡ whole_of f (length out)) (fits : k ≤ length out) (front : l ≡ whole_line f (length (take k out)) s at sp) where
  front_is : l ≡ whole_line f (whole_of f (length out)) s at sp
  front_is = front ∙ ap (λ (n : ℕ). whole_line f n s at sp) (length-take-le k out fits ∙ is)

  front_length : length l ≡ k
  front_length = ap length front_is ∙ whole_length f (whole_of f (length out)) s at sp ∙ sym is

  pub inner_all : k ≡ length out → l ++ drop k out ≡ inner_line f (whole_of f (length out)) (length out) s at sp
  unfolding inner_line rest_line sixes tab
  inner_all all =
      let none : length out - whole_of f (length out) ≡ 0 = omega arith in
      ap (λ (x : List ℕ). l ++ x) (drop_of_length-le out (let le : length out ≤ k = omega arith in le))
      ∙ append-nil l
      ∙ front_is
      ∙ rw none (sym (append-nil (whole_line f (whole_of f (length out)) s at sp)))

  -- then from column k on, and came back as m
  pub inner_both : (m : List ℕ) → m ≡ rest_line (length (take (length (l ++ drop k out) - k) (drop k (l ++ drop k out)))) s (at + k) sp → take k (l ++ drop k out) ++ (m ++ drop (length (l ++ drop k out) - k) (drop k (l ++ drop k out))) ≡ inner_line f (whole_of f (length out)) (length out) s at sp
  unfolding inner_line
  inner_both m e =
      two_parts out l m k fits front_length
      ∙ ap (λ (x : List ℕ). x ++ m) front_is
      ∙ ap (λ (x : List ℕ). whole_line f (whole_of f (length out)) s at sp ++ x) (e ∙ ap (λ (n : ℕ). rest_line n s (at + k) sp) (rest_length out l m k fits front_length) ∙ ap (λ (n : ℕ). rest_line (length out - n) s (at + n) sp) is)

pub line_length : (f : ReduceFilter) (whole n h : ℕ) (s : List ℕ) (base sp y : ℕ) → whole ≤ n → length (vertical_line f whole n h s base sp y) ≡ n
unfolding vertical_line
line_length f whole n h s base sp y le = go (is_edge f y h)
  where
    rest : (at : ℕ) → length (inner_line f whole n s at sp) ≡ n
    rest at = inner_length f whole n s at sp le

    go : (t : Bool) → length (cond t (means_of n (fetch s (base + y * (2 * sp)) n) (fetch s (base + y * (2 * sp) + sp) n)) (inner_line f whole n s (base + y * (2 * sp)) sp)) ≡ n
    go true = means_length n _ _
    go false = rest (base + y * (2 * sp))

-- ---- the rows that it reads
-- an edge reads two rows
pub edge_reach : {len base sp n h y : ℕ} → Source len base sp n h → y < h → base + y * (2 * sp) + sp + n ≤ len
edge_reach {len} {base} {sp} {n} {h} {y} s lt = omega (arith, s.rows, row_in y h (2 * sp) lt)

next_row : (y h sp : ℕ) → y + 1 < h → y * (2 * sp) + 4 * sp ≤ h * (2 * sp)
next_row y h sp lt = omega (arith, row_in (y + 1) h (2 * sp) lt, add-mul y 1 (2 * sp), one-mul (2 * sp))

below_reach : (f : ReduceFilter) {len base sp n h y : ℕ} → Source len base sp n h → y < h → (last_is_mean f ≡ true → y + 1 < h) → base + y * (2 * sp) + last_row f * sp + n ≤ len
below_reach Average {sp = sp} {h = h} {y = y} s lt more = omega (arith, s.rows, row_in y h (2 * sp) lt)
below_reach Bilinear {sp = sp} {h = h} {y = y} s lt more = omega (arith, s.rows, next_row y h sp (more refl))
below_reach Quadratic {sp = sp} {h = h} {y = y} s lt more = omega (arith, s.rows, next_row y h sp (more refl))
below_reach Cubic {sp = sp} {h = h} {y = y} s lt more = omega (arith, s.rows, next_row y h sp (more refl))

pub past_first : (f : ReduceFilter) (y h : ℕ) → is_edge f y h ≡ false → 0 < y
past_first f zero h e = absurd (let z : ◌≡◌ {A = ℕ} 0 1 = cc in omega arith)
past_first f (suc y) h e = omega arith

before_last : (f : ReduceFilter) (y h : ℕ) → is_edge f y h ≡ false → last_is_mean f ≡ true → y + 1 < h
before_last f y h e m = leb-false h (y + 1) (rw m at (or_false_right (eqb y 0) (last_is_mean f && leb h (y + 1)) e))

-- another row as many as its filter
pub inner_reach : (f : ReduceFilter) {len base sp n h y : ℕ} → Source len base sp n h → y < h → is_edge f y h ≡ false → (2 * sp ≤ base + y * (2 * sp)) × (base + y * (2 * sp) + last_row f * sp + n ≤ len)
inner_reach f {base = base} {sp = sp} {h = h} {y = y} s lt e = (omega (arith, row_in 0 y (2 * sp) (past_first f y h e)), below_reach f s lt (before_last f y h e))

pub whole_or : (f : ReduceFilter) (n : ℕ) → (whole_of f n ≤ n) × ((whole_of f n ≡ n) ⊎ (last_row f ≡ 3))
whole_or Average n = (omega arith, inl refl)
whole_or Bilinear n = (omega arith, inl refl)
whole_or Quadratic n = (omega arith, inl refl)
whole_or Cubic n = (omega arith, inr refl)

-- ---- all that it reads, where `Ok` says which runs are good
-- a row that is no edge: n columns, `whole` of them by rows alone, from the source row at `at`
pub record InnerReads (Ok : ℕ → ℕ → Type 0) (f : ReduceFilter) (whole n at sp : ℕ) : Type 0 where
  pub m2 : 2 ≤ first_row f → Ok (at - 2 * sp) whole
  pub m1 : Ok (at - sp) whole
  pub c0 : Ok at whole
  pub p1 : Ok (at + sp) whole
  pub p2 : 2 ≤ last_row f → Ok (at + 2 * sp) whole
  pub p3 : 3 ≤ last_row f → Ok (at + 3 * sp) whole
  pub ra : whole < n → Ok (at + whole - sp / 2) (n - whole)
  pub r1 : whole < n → Ok (at + whole - sp) (n - whole)
  pub r2 : whole < n → Ok (at + whole) (n - whole)
  pub r3 : whole < n → Ok (at + whole + sp) (n - whole)
  pub rb : whole < n → Ok (at + whole + sp / 2) (n - whole)
  pub rc : whole < n → Ok (at + whole + 3 * (sp / 2)) (n - whole)

pub record LineReads (Ok : ℕ → ℕ → Type 0) (f : ReduceFilter) (whole n h base sp y : ℕ) : Type 0 where
  pub first : is_edge f y h ≡ true → Ok (base + y * (2 * sp)) n
  pub second : is_edge f y h ≡ true → Ok (base + y * (2 * sp) + sp) n
  pub inner : is_edge f y h ≡ false → InnerReads Ok f whole n (base + y * (2 * sp)) sp

-- where every run is
pub reads_all : {Ok : ℕ → ℕ → Type 0} {f : ReduceFilter} {whole n h base sp y : ℕ} → ((at k : ℕ) → Ok at k) → LineReads Ok f whole n h base sp y
reads_all all =
    record {
      first = λ e. all _ _;
      second = λ e. all _ _;
      inner = λ e. record {
        m2 = λ z. all _ _;
        m1 = all _ _;
        c0 = all _ _;
        p1 = all _ _;
        p2 = λ z. all _ _;
        p3 = λ z. all _ _;
        ra = λ z. all _ _;
        r1 = λ z. all _ _;
        r2 = λ z. all _ _;
        r3 = λ z. all _ _;
        rb = λ z. all _ _;
        rc = λ z. all _ _;
      };
    }

-- where every run in the source is
module _ {Ok : ℕ → ℕ → Type 0} {len : ℕ} (ok : (at k : ℕ) → at + k ≤ len → Ok at k) (f : ReduceFilter) {whole n : ℕ} (le : whole ≤ n) (either : (whole ≡ n) ⊎ (last_row f ≡ 3)) where
  inner_reads : {at sp : ℕ} → 2 * sp ≤ at → at + last_row f * sp + n ≤ len → InnerReads Ok f whole n at sp
  inner_reads {at} {sp} above below =
      let near = (last_near f sp).0 in
      let far : whole < n → last_row f * sp ≡ 3 * sp = λ some. ⊎_elim (λ (e : whole ≡ n). absurd (omega arith)) (λ (e : last_row f ≡ 3). ap (λ (k : ℕ). k * sp) e) either in
      record {
        m2 = λ z. ok _ _ (omega arith);
        m1 = ok _ _ (omega arith);
        c0 = ok _ _ (omega arith);
        p1 = ok _ _ (omega arith);
        p2 = λ two. ok _ _ (omega (arith, mul-le-mul_right sp two));
        p3 = λ three. ok _ _ (omega (arith, mul-le-mul_right sp three));
        ra = λ some. ok _ _ (omega (arith, far some));
        r1 = λ some. ok _ _ (omega (arith, far some));
        r2 = λ some. ok _ _ (omega (arith, far some));
        r3 = λ some. ok _ _ (omega (arith, far some));
        rb = λ some. ok _ _ (omega (arith, far some));
        rc = λ some. ok _ _ (omega (arith, far some));
      }

  pub line_reads : {base sp h y : ℕ} → Source len base sp n h → y < h → LineReads Ok f whole n h base sp y
  line_reads s lt =
      record {
        first = λ e. ok _ _ (omega (arith, edge_reach s lt));
        second = λ e. ok _ _ (edge_reach s lt);
        inner = λ e. let r = inner_reach f s lt e in inner_reads r.0 r.1;
      }
