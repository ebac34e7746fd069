use Rattle.std.proofs.Common.{◌∙◌, sym, ap}
use Rattle.pipe_steps.specs.Said.{agg_view, named_view}
use Rattle.pipe_print.specs.Items.{commas, field_items, key_items, total_items}
use Rattle.pipe_print.specs.Lines.{part_items, piece}
use Rattle.pipe_print.specs.declared.piece.Piece.{Piece}
use Rattle.pipe_print.proofs.Writing.{commas_view, same_items}
use Rattle.pipe_print.proofs.printing.piece.Goals as goal

pub returns-in-Fields : goal.returns-in-Fields
returns-in-Fields c =
    same_items c.entries-in-Fields.result c.args.version c.args.out.now.items c.entries-in-Fields.new.out.items (commas (λ f. field_items (named_view f)) c.in-Fields.fields.now) (part_items (piece c.args.piece.now))
    c.entries-in-Fields.ensures (commas_view field_items named_view c.in-Fields.fields.now ∙ sym (ap (λ (p : Piece). part_items (piece p)) c.in-Fields.is))

pub returns-in-Keys : goal.returns-in-Keys
returns-in-Keys c =
    same_items c.entries-in-Keys.result c.args.version c.args.out.now.items c.entries-in-Keys.new.out.items (commas (λ f. key_items (named_view f)) c.in-Keys.keys.now) (part_items (piece c.args.piece.now))
    c.entries-in-Keys.ensures (commas_view key_items named_view c.in-Keys.keys.now ∙ sym (ap (λ (p : Piece). part_items (piece p)) c.in-Keys.is))

pub returns-in-Totals : goal.returns-in-Totals
returns-in-Totals c =
    same_items c.entries-in-Totals.result c.args.version c.args.out.now.items c.entries-in-Totals.new.out.items (commas (λ t. total_items (agg_view t)) c.in-Totals.totals.now) (part_items (piece c.args.piece.now))
    c.entries-in-Totals.ensures (commas_view total_items agg_view c.in-Totals.totals.now ∙ sym (ap (λ (p : Piece). part_items (piece p)) c.in-Totals.is))
