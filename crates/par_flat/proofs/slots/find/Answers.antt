use Rattle.std.proofs.Common.{◌∙◌, sym, ap}
use Rattle.par_flat.proofs.Walks.{looked-found, looked-end, absent-gap, absent-round, absent-later, absent_all, back_is}
use Rattle.par_flat.specs.Slots.{looked}
use Rattle.par_flat.proofs.slots.find.Goals as goal

pub returns-in-Found-clause-found : goal.returns-in-Found-clause-found
returns-in-Found-clause-found g c = looked-found (g.W.Wanted.is_wanted c.args.wanted.now) c.args.rest _ c.in-Found.at (sym c.in-Found.ensures)

pub returns-in-Gap-clause-absent : goal.returns-in-Gap-clause-absent
returns-in-Gap-clause-absent g c = absent_all (g.W.Wanted.is_wanted c.args.wanted.now) c.args.rest c.args.slots.now (absent-gap (g.W.Wanted.is_wanted c.args.wanted.now) c.args.rest c.args.home c.args.slots.now c.requires.clear (ap (looked (g.W.Wanted.is_wanted c.args.wanted.now) c.args.rest) (sym (back_is c.args.home c.args.slots.now)) ∙ sym c.in-Gap.ensures))

pub returns-in-Found-look-clause-found : goal.returns-in-Found-look-clause-found
returns-in-Found-look-clause-found g c = looked-found (g.W.Wanted.is_wanted c.args.wanted.now) c.args.rest _ c.in-Found-look.at (sym c.in-Found-look.ensures)

pub returns-in-Gap-look-clause-absent : goal.returns-in-Gap-look-clause-absent
returns-in-Gap-look-clause-absent g c = absent_all (g.W.Wanted.is_wanted c.args.wanted.now) c.args.rest c.args.slots.now (absent-later (g.W.Wanted.is_wanted c.args.wanted.now) c.args.rest c.args.home c.args.slots.now c.requires.clear (ap (looked (g.W.Wanted.is_wanted c.args.wanted.now) c.args.rest) (sym (back_is c.args.home c.args.slots.now)) ∙ sym c.in-End.ensures) (sym c.in-Gap-look.ensures))

pub returns-in-End-look-clause-absent : goal.returns-in-End-look-clause-absent
returns-in-End-look-clause-absent g c = absent_all (g.W.Wanted.is_wanted c.args.wanted.now) c.args.rest c.args.slots.now (absent-round (g.W.Wanted.is_wanted c.args.wanted.now) c.args.rest c.args.home c.args.slots.now (ap (looked (g.W.Wanted.is_wanted c.args.wanted.now) c.args.rest) (sym (back_is c.args.home c.args.slots.now)) ∙ sym c.in-End.ensures) (looked-end (g.W.Wanted.is_wanted c.args.wanted.now) c.args.rest _ (sym c.in-End-look.ensures)))
