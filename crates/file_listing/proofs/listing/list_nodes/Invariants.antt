use Rattle.std.proofs.Common.{◌≡◌, take}
use Rattle.std.specs.List.{filter_map}
use Rattle.file_listing.specs.rules.Listed.{listed_of}
use Rattle.file_listing.proofs.listing.list_nodes.Given as goal

abbrev pub invariant-loop-place : goal.invariant-loop-place
invariant-loop-place l = l.nodes.items ≡ filter_map listed_of (take l.place l.fn.tree.nodes)
