-- `record_of` meets its contract. Assumes nothing.
use mathlib.Core.Path.{◌≡◌, sym, ◌∙◌}
use borrow.Author.Rules.{rules}
use borrow.Author.Tests.{not-true, not-false}
use Rattle.settings.specs.Answers.{no_record}
use Rattle.answers.proofs.Records.{no_record_of, record_fields, record_long}
use Rattle.answers.proofs.record.record_of.Goals as goal

pub returns-then-not-are_fields : goal.returns-then-not-are_fields
returns-then-not-are_fields c = let zeros : c.default.result ≡ no_record = search rules in zeros ∙ no_record_of c.args.fields.now (sym c.are_fields.ensures ∙ not-true c.are_fields.result c.if-not-are_fields.true-raw)

pub fields_of-requires : goal.fields_of-requires
fields_of-requires c = record_long c.args.fields.now (sym c.are_fields.ensures ∙ not-false c.are_fields.result c.if-not-are_fields.false-raw)

pub returns : goal.returns
returns c = c.fields_of.ensures ∙ record_fields c.args.fields.now (sym c.are_fields.ensures ∙ not-false c.are_fields.result c.if-not-are_fields.false-raw)
