use Rattle.std.proofs.Common.{◌≡◌, ◌+◌, ◌≤◌, ◌∷◌, ◌++◌, [], sym, ap, ◌∙◌, arith}
use denote.Param.{param}
use Rattle.fi_parts.specs.BlockOwner.{times, block_places}
use Rattle.fi_parts.specs.Chunks.{places_in}
use Rattle.fi_parts.proofs.ChunkPlaces.{kept_grown}
use Rattle.fi_parts.proofs.blocks.owner.grow.Goals as goal

pub returns-clause-kept : goal.returns-clause-kept
returns-clause-kept g c =
    let pushed = c.push_places.ensures.pushed in let chunk = c.in_ok-chunk.chunk in
    let size = c.in_ok-chunk.ensures.taken.0 in
    -- the room that was made, and how long the stack was and is
    let asked : c.reserve.new.items.len + (c.places_in.result + c.chunk_len-len.result + 1) ≤ c.reserve.new.items.cap =
    c.in_ok-reserve.ensures.ok in
    let places : c.places_in.result ≡ places_in c.args.chunks.now = c.places_in.ensures in
    let same_len : c.reserve.new.items.len ≡ c.args.stack.now.len = c.reserve.ensures.len in
    let len = c.args.stack.now.ok.0 in let none = c.requires.none in
    let first : c.push_reserved.new.self.cap ≡ c.reserve.new.items.cap = c.push_reserved.ensures.capacity in
    let rest : c.push_places.new.stack.cap ≡ c.push_reserved.new.self.cap = c.push_places.ensures.capacity in
    let count : c.push_places.new.stack.len ≡ c.push_reserved.new.self.len + c.chunk_len-len.result = c.push_places.ensures.count in
    let long = c.push_places.new.stack.ok.0 in let short = c.push_reserved.new.self.ok.0 in
    kept_grown c.args.places.now c.add-first.new.self c.args.stack.now.items c.push_reserved.new.self.items
    c.push_places.new.stack.items pushed.0 c.args.stack.now.cap c.push_places.new.stack.cap c.args.chunks.now chunk.len
    c.add-first.result
    (block_places (param 0 g.row.T) c.add-first.result.ptr chunk.len) c.requires.kept c.requires.none
    (size ∙ c.chunk_len-len.ensures)
    (omega (arith, asked, places, same_len, len, none, first, rest, size))
    (c.push_reserved.ensures.items ∙ ap (λ l. l ++ c.add-first.result ∷ []) c.reserve.ensures.items)
    pushed.1
    (omega (arith, count, long, short, size))
    (λ q. pushed.2 q ∙ ap (λ n. times q (block_places (param 0 g.row.T) c.add-first.result.ptr n)) (sym size))
    c.add-first.ensures.blocks c.add-first.ensures.vacant c.add-first.ensures.chunks
