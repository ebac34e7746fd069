use Rattle.std.proofs.Common.{◌≡◌, ◌+◌, ◌∙◌, ap, drop, take, ◌/◌, ◌^◌, ◌<◌, arith}
use Rattle.par_flat.specs.Slots.{first_free}
use Rattle.par_flat.proofs.Walks.{back_is}
use Rattle.par_flat.proofs.Puts.{clear-late, clear-early, late_is_free, early_is_free, early_within, is_in-put, taken-set}
use Rattle.par_flat.proofs.slots.put.Goals as goal

pub returns-then-late-slots-clause-clear : goal.returns-then-late-slots-clause-clear
returns-then-late-slots-clause-clear c =
    let late : c.gap_in.result ≡ first_free (drop (c.args.leaf.rest / 2 ^ c.args.shift) c.args.slots.now) = c.gap_in.ensures.first ∙ ap first_free (back_is (c.args.leaf.rest / 2 ^ c.args.shift) c.args.slots.now) in
    clear-late c.args.shift c.gap_in.result c.args.slots.now c.args.leaf late c.if-late-slots.true c.requires.clear

pub returns-then-late-slots-clause-count : goal.returns-then-late-slots-clause-count
returns-then-late-slots-clause-count c =
    let late : c.gap_in.result ≡ first_free (drop (c.args.leaf.rest / 2 ^ c.args.shift) c.args.slots.now) = c.gap_in.ensures.first ∙ ap first_free (back_is (c.args.leaf.rest / 2 ^ c.args.shift) c.args.slots.now) in
    taken-set c.args.slots.now (c.args.leaf.rest / 2 ^ c.args.shift + c.gap_in.result) c.args.leaf (late_is_free (c.args.leaf.rest / 2 ^ c.args.shift) c.gap_in.result c.args.slots.now late c.if-late-slots.true)

pub returns-then-late-slots-clause-leaves : goal.returns-then-late-slots-clause-leaves
returns-then-late-slots-clause-leaves c = λ q a.
    let late : c.gap_in.result ≡ first_free (drop (c.args.leaf.rest / 2 ^ c.args.shift) c.args.slots.now) = c.gap_in.ensures.first ∙ ap first_free (back_is (c.args.leaf.rest / 2 ^ c.args.shift) c.args.slots.now) in
    is_in-put c.args.slots.now (c.args.leaf.rest / 2 ^ c.args.shift + c.gap_in.result) c.args.leaf q a (late_is_free (c.args.leaf.rest / 2 ^ c.args.shift) c.gap_in.result c.args.slots.now late c.if-late-slots.true)

pub bounds-slots-early : goal.bounds-slots-early
bounds-slots-early c =
    let home = c.args.leaf.rest / 2 ^ c.args.shift in
    let late : c.gap_in.result ≡ first_free (drop (c.args.leaf.rest / 2 ^ c.args.shift) c.args.slots.now) = c.gap_in.ensures.first ∙ ap first_free (back_is (c.args.leaf.rest / 2 ^ c.args.shift) c.args.slots.now) in
    let within : first_free (take (c.args.leaf.rest / 2 ^ c.args.shift) c.args.slots.now) < c.args.leaf.rest / 2 ^ c.args.shift = early_within (c.args.leaf.rest / 2 ^ c.args.shift) c.args.slots.now c.requires.room c.requires.home (omega (arith, c.if-late-slots.false, late)) in
    omega (arith, c.gap_in-early.ensures.first, within, c.requires.home)

pub returns-clause-clear : goal.returns-clause-clear
returns-clause-clear c =
    let late : c.gap_in.result ≡ first_free (drop (c.args.leaf.rest / 2 ^ c.args.shift) c.args.slots.now) = c.gap_in.ensures.first ∙ ap first_free (back_is (c.args.leaf.rest / 2 ^ c.args.shift) c.args.slots.now) in
    let within : first_free (take (c.args.leaf.rest / 2 ^ c.args.shift) c.args.slots.now) < c.args.leaf.rest / 2 ^ c.args.shift = early_within (c.args.leaf.rest / 2 ^ c.args.shift) c.args.slots.now c.requires.room c.requires.home (omega (arith, c.if-late-slots.false, late)) in
    let before : c.gap_in-early.result < c.args.leaf.rest / 2 ^ c.args.shift = omega (arith, c.gap_in-early.ensures.first, within) in
    clear-early c.args.shift c.gap_in.result c.gap_in-early.result c.args.slots.now c.args.leaf late c.if-late-slots.false c.requires.home c.gap_in-early.ensures.first before (early_is_free (c.args.leaf.rest / 2 ^ c.args.shift) c.gap_in-early.result c.args.slots.now c.requires.home c.gap_in-early.ensures.first before) c.requires.clear

pub returns-clause-count : goal.returns-clause-count
returns-clause-count c =
    let late : c.gap_in.result ≡ first_free (drop (c.args.leaf.rest / 2 ^ c.args.shift) c.args.slots.now) = c.gap_in.ensures.first ∙ ap first_free (back_is (c.args.leaf.rest / 2 ^ c.args.shift) c.args.slots.now) in
    let within : first_free (take (c.args.leaf.rest / 2 ^ c.args.shift) c.args.slots.now) < c.args.leaf.rest / 2 ^ c.args.shift = early_within (c.args.leaf.rest / 2 ^ c.args.shift) c.args.slots.now c.requires.room c.requires.home (omega (arith, c.if-late-slots.false, late)) in
    let before : c.gap_in-early.result < c.args.leaf.rest / 2 ^ c.args.shift = omega (arith, c.gap_in-early.ensures.first, within) in
    taken-set c.args.slots.now c.gap_in-early.result c.args.leaf (early_is_free (c.args.leaf.rest / 2 ^ c.args.shift) c.gap_in-early.result c.args.slots.now c.requires.home c.gap_in-early.ensures.first before)

pub returns-clause-leaves : goal.returns-clause-leaves
returns-clause-leaves c = λ q a.
    let late : c.gap_in.result ≡ first_free (drop (c.args.leaf.rest / 2 ^ c.args.shift) c.args.slots.now) = c.gap_in.ensures.first ∙ ap first_free (back_is (c.args.leaf.rest / 2 ^ c.args.shift) c.args.slots.now) in
    let within : first_free (take (c.args.leaf.rest / 2 ^ c.args.shift) c.args.slots.now) < c.args.leaf.rest / 2 ^ c.args.shift = early_within (c.args.leaf.rest / 2 ^ c.args.shift) c.args.slots.now c.requires.room c.requires.home (omega (arith, c.if-late-slots.false, late)) in
    let before : c.gap_in-early.result < c.args.leaf.rest / 2 ^ c.args.shift = omega (arith, c.gap_in-early.ensures.first, within) in
    is_in-put c.args.slots.now c.gap_in-early.result c.args.leaf q a (early_is_free (c.args.leaf.rest / 2 ^ c.args.shift) c.gap_in-early.result c.args.slots.now c.requires.home c.gap_in-early.ensures.first before)
