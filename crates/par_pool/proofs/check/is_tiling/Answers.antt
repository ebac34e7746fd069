use Rattle.std.proofs.Common.{refl}
use Rattle.par_pool.proofs.Tiling.{nodes_of, distinct_of}
use Rattle.par_pool.proofs.check.is_tiling.Goals as goal

pub returns : goal.returns
returns c = λ t. let table = rw c.in-Some.is at c.in_ok-table.ensures in record {
  covers = c.if-not-cover.ensures refl;
  many = c.if-not-are_many.ensures refl;
  nodes = nodes_of _ _ table;
  distinct = distinct_of _ _ table;
  few = c.if-lists-workers.false;
  stand = c.if-not-all_stand.ensures refl;
  told = c.all_told.ensures t;
}
