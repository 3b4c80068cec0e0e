-- This many have gone.
use Rattle.std.proofs.Common.{◌≡◌, ◌≤◌, drop}
use Rattle.std.specs.VecDeque.{deque_len}
use Rattle.minus.proofs.waiting.let_first_go.Given as goal

abbrev pub invariant-loop : goal.invariant-loop
invariant-loop g l = record {
  items : l.queue.items ≡ drop l.counter l.fn.queue.items;
  fewer : deque_len l.queue ≤ deque_len l.fn.queue;
}
