use Rattle.std.proofs.Common.{◌≡◌, map, drop, encode_utf8_all}
use Rattle.par_edge.specs.Files.{file_of}
use Rattle.par_edge.proofs.memory_shelf.find.Given as goal

abbrev pub invariant-loop-file : goal.invariant-loop-file
invariant-loop-file l = file_of (map (λ f. record { name = encode_utf8_all f.name; bytes = f.bytes.items }) l.fn.files) l.fn.name ≡ file_of (map (λ f. record { name = encode_utf8_all f.name; bytes = f.bytes.items }) (drop l.file-index l.files)) l.fn.name
