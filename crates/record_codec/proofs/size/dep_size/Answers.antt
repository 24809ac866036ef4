use Rattle.record_codec.proofs.Sizes.{dense_size, sparse_size}
use Rattle.record_codec.proofs.size.dep_size.Goals as goal

pub returns-in-Dense-clause-size : goal.returns-in-Dense-clause-size
returns-in-Dense-clause-size c = dense_size _ _ _ _ c.in-Dense.is c.dcs.ensures.value

pub returns-in-Sparse-clause-size : goal.returns-in-Sparse-clause-size
returns-in-Sparse-clause-size c = sparse_size _ _ _ _ _ c.in-Sparse.is c.number.ensures.value c.told_count.ensures.count
