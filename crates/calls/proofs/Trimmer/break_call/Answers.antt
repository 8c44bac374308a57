-- An earlier call was found in the chain of its mix, or a row is put, at the chain's head if it is sought.
use Rattle.std.proofs.Common.{rules}
use Rattle.calls.proofs.Search.{word_is, ready_sought, broken_off, chain_sought, broken_found, broken_made}
use Rattle.calls.proofs.Trimmer.break_call.Goals as goal

pub returns-then-not-self-clause-broken : goal.returns-then-not-self-clause-broken
returns-then-not-self-clause-broken c =
    broken_off c.args.self.now.nodes.table c.requires (search rules) c.new_call.ensures.answer c.new_call.ensures.put

pub seek-requires-clause-ready : goal.seek-requires-clause-ready
seek-requires-clause-ready c =
    let mix = rw (c.trees.ensures.nodes, c.trees.ensures.marks) at c.mix_seen-m.ensures in
    rw (word_is _ _ c.get-link.ensures)
    (chain_sought c.args.self.now.nodes.table c.requires (search rules) mix c.slot_of-at.ensures c.key_of-key.ensures)

pub seek-requires-clause-sought : goal.seek-requires-clause-sought
seek-requires-clause-sought c = ready_sought c.args.self.now.nodes.table c.requires

pub returns-in-Some-clause-broken : goal.returns-in-Some-clause-broken
returns-in-Some-clause-broken c =
    let mix = rw (c.trees.ensures.nodes, c.trees.ensures.marks) at c.mix_seen-m.ensures in
    broken_found c.args.self.now.nodes.table c.requires (search rules) mix c.slot_of-at.ensures c.in-Some.ensures

pub returns-in-None-clause-broken : goal.returns-in-None-clause-broken
returns-in-None-clause-broken c =
    let mix = rw (c.trees.ensures.nodes, c.trees.ensures.marks) at c.mix_seen-m.ensures in
    let linked = word_is _ _ c.get-link.ensures in
    let call = c.new_call-in-None.ensures in
    broken_made c.args.self.now.nodes.table c.requires (search rules) mix c.slot_of-at.ensures c.in-None.ensures c.key_of-key.ensures
    call.answer linked c.set.ensures call.put
