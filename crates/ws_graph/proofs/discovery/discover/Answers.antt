use Rattle.std.proofs.lemmas.List.{nil_from_length}
use Rattle.std.proofs.Common.{rules, ◌≡◌, length, false, arith}
use Rattle.ws_graph.specs.Discovery.{held_sources, string_texts, waiting_paths}
use Rattle.ws_graph.proofs.Walking.{begun, not_empty, waiting_files, next_head, grows, all_met}
use Rattle.ws_graph.proofs.discovery.discover.Goals as goal

pub loop-alloc-init : goal.loop-alloc-init
loop-alloc-init g c = begun c.args.edition (held_sources c.args.registers.now) c.args.first.items c.new-met.result.entries (search rules) c.requires

pub loop-alloc-preserved : goal.loop-alloc-preserved
loop-alloc-preserved g c =
    let sources = held_sources c.args.registers.now in
    let targets = waiting_paths c.args.first.items in
    let at = c.loop-alloc.invariant in
    let takes = c.in_ok-imported.ensures.takes c.args.edition targets c.loop-alloc.wave.items (c.in_ok-read.ensures sources at.waiting) at.walking in
    next_head c.args.edition sources targets c.loop-alloc.wave.items c.in_ok-wave.wave.items c.loop-alloc.met.entries c.take_all.new.met.entries (string_texts c.in_ok-imported.imported.items) takes c.in_ok-imported.ensures.ordered c.in_ok-wave.ensures

pub loop-alloc-smaller : goal.loop-alloc-smaller
loop-alloc-smaller g c =
    let sources = held_sources c.args.registers.now in
    let targets = waiting_paths c.args.first.items in
    let at = c.loop-alloc.invariant in
    let wave = c.loop-alloc.wave.items in
    let takes = c.in_ok-imported.ensures.takes c.args.edition targets wave (c.in_ok-read.ensures sources at.waiting) at.walking in
    let filled : c.is_empty.result ≡ false = search rules in
    let some = not_empty wave c.is_empty.result c.loop-alloc.wave.len (omega (arith, c.loop-alloc.wave.ok)) c.is_empty.ensures filled in
    let both = grows c.args.edition sources targets wave c.loop-alloc.met.entries c.take_all.new.met.entries (string_texts c.in_ok-imported.imported.items) (waiting_files sources c.args.first.items c.requires) at some c.in_ok-imported.ensures.ordered takes in
    let more = both.0 in
    let few = both.1 in
    omega (arith, more, few)

pub returns : goal.returns
returns g c =
    let wave = c.loop-alloc.wave.items in
    let long : length wave ≡ 0 = search rules in
    all_met c.args.edition (held_sources c.args.registers.now) (waiting_paths c.args.first.items) c.loop-alloc.met.entries wave (waiting_files (held_sources c.args.registers.now) c.args.first.items c.requires) c.loop-alloc.invariant (nil_from_length wave long)
