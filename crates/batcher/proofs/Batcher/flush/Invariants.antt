use Rattle.std.proofs.Common.{◌≡◌, ◌≤◌, length, map, vec_capacity, vec_len}
use Rattle.batcher.specs.Batchers.{parcel_of}
use Rattle.batcher.proofs.Batcher.flush.Given as goal

abbrev pub invariant-loop-item : goal.invariant-loop-item
invariant-loop-item l = record {
  next : (goal.iterator-loop-item).can_next l.item-iterator;
  finite : (goal.iterator-loop-item).is_finite l.item-iterator;
  sent : l.parcels.items ≡ map (parcel_of l.champions l.filters) l.yielded;
  len : vec_len l.parcels ≡ length l.yielded;
  room : length l.fn.self ≤ vec_capacity l.parcels;
}
