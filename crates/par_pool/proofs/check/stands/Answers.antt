use Rattle.std.proofs.Common.{◌∙◌, sym}
use Rattle.par_pool.proofs.check.stands.Goals as goal

pub returns : goal.returns
returns c = λ t. let a = c.in-Some.ensures.lookup in let b = c.in-Some-get.ensures.lookup in let e = c.is_same.ensures t in record {
  list = c.in-Some.list.now;
  seat_is = a.3.0;
  list_is = λ d. sym (a.3.1 d);
  turn_is = rw (← c.as_slice.ensures.value) b.3.0;
  leaf_is = λ d. rw (← c.as_slice.ensures.value) (sym (b.3.1 d) ∙ e);
}
