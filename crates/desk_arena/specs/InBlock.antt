-- How an arena lies in its block.
use Rattle.std.specs.Prelude.{length}
use Rattle.desk_arena.specs.Contents.{Contents, last_bytes}
use Rattle.desk_arena.specs.Nodes.{nodes_of}
use Rattle.desk_arena.specs.declared.arena.DocArena.TheInside.{Inside}

-- nodes lie from the front of the block on, and the texts are its end
abbrev pub contents : Inside → Contents
contents a = record { capacity = length a.block; nodes = nodes_of a.nodes a.block; texts = last_bytes a.texts a.block }
