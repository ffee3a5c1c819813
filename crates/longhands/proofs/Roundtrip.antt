-- Document 02 about the calls: an accepted record is written where there is room, and read back as it was; and two slices that are read as one record begin with the same bytes. Assumes nothing.
use mathlib.Core.Path.{◌≡◌, sym, ap, ◌∙◌}
use mathlib.Core.Bool.{true}
use mathlib.Core.List.{List}
use Prim.Native.Nat.{ℕ, ◌≤◌}
use contract.Lifetimes.{Lfts}
use lib.ListN.{length, drop, take}
use borrow.Author.Tests.{le-ltb}
use Rattle.settings.specs.declared.super_opts.SuperOpts.{SuperOpts}
use Rattle.settings.specs.Numbers.{is_i32}
use Rattle.settings.specs.Check.{accepted}
use Rattle.settings.specs.Answers.{answer, tested, written}
use Rattle.settings.proofs.Known.{number_of, value_given}
use Rattle.settings.proofs.Accepted.{record_none}
use Rattle.settings.proofs.Outcome.{Promises}
use Rattle.longhands.specs.LittleEndian.{bytes}
use Rattle.longhands.specs.Longhand.{read_as, longhand_answer, longhand_of, kind1_bytes, write_no, write_answer}
use Rattle.longhands.proofs.Encodings.{survives, read_exactly, one_encoding}
use Rattle.longhands.proofs.longhand.write_longhand.Reads as write_longhand_reads
use Rattle.longhands.proofs.longhand.read_longhand.Reads as read_longhand_reads

-- an accepted record of i32 filters
pub record Good (r : SuperOpts) : Type 0 where
  pub good : accepted r ≡ true
  pub down_fits : is_i32 r.scale_down ≡ true
  pub up_fits : is_i32 r.scale_up ≡ true

none : (r : SuperOpts) (lent : List ℕ) → accepted r ≡ true → kind1_bytes ≤ length lent → write_no r lent ≡ 0
none r lent good room = rw (record_none r good, le-ltb (length lent) kind1_bytes room)

written_by : {out : List ℕ} (r : SuperOpts) (lent : List ℕ) → Good r → answer 0 out ≡ write_answer r lent → longhand_answer out ≡ answer 0 (record { opts = r; after = kind1_bytes })
written_by {out} r lent g e = ap longhand_answer (value_given (written (longhand_of r) lent) lent e) ∙ survives r (drop (length (longhand_of r)) lent) g.good g.down_fits g.up_fits

pub written_read : (κs λs : Lfts 1) → Promises (write_longhand_reads.Post κs) (λ x t e. Good x.0 → kind1_bytes ≤ length x.1.0.now → (tested t ≡ 0) × Promises (read_longhand_reads.Post λs) (λ y s f. y.0.now ≡ e.1.0.now → read_as s ≡ answer 0 (record { opts = x.0; after = kind1_bytes })))
written_read κs λs x t e p g room =
    let fine = number_of p ∙ none x.0 x.1.0.now g.good room in
    (fine, λ y s f q same. q ∙ ap longhand_answer same ∙ written_by x.0 x.1.0.now g (ap (λ (n : ℕ). answer n e.1.0.now) (sym fine) ∙ p))

pub read_alike : (κs λs : Lfts 1) (r : SuperOpts) (place last : ℕ) → Promises (read_longhand_reads.Post κs) (λ x s e. bytes x.0.now ≡ true → read_as s ≡ answer 0 (record { opts = r; after = place }) → Promises (read_longhand_reads.Post λs) (λ y t f. bytes y.0.now ≡ true → read_as t ≡ answer 0 (record { opts = r; after = last }) → take kind1_bytes x.0.now ≡ take kind1_bytes y.0.now))
read_alike κs λs r place last x s e p are is y t f q are' is' =
    one_encoding x.0.now y.0.now r
    ((read_exactly x.0.now r place are).0 (sym p ∙ is)).1
    ((read_exactly y.0.now r last are').0 (sym q ∙ is')).1
