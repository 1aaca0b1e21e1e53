use Rattle.script.proofs.Pairs.{says_back}
use Rattle.script.proofs.hex.read_bytes.Goals as goal
use Rattle.script.specs.Hex.{bytes_of}
use Rattle.script.specs.Reads.{Says}
use Rattle.script.specs.declared.refusal.Refusal.TheVariants.{BadLine}
use Rattle.std.proofs.Common.{◌≡◌, Some, None, Ok, Err, vec_items, arith, rules}
use Rattle.std.proofs.lemmas.Grind.{common_steps}
use Rattle.std.specs.declared.alloc.Global.{Global}

pub returns-in-empty : goal.returns-in-empty
unfolding bytes_of
returns-in-empty c =
    let v : bytes_of c.args.text.now ≡ None = search rules in
    record { value = v; back = says_back (vec_items {Z = Global}) (Err BadLine) c.args.text.now v }

pub returns-in-45 : goal.returns-in-45
unfolding bytes_of
returns-in-45 c =
    let v : bytes_of c.args.text.now ≡ Some (vec_items c.new.result) = grind (arith, common_steps) in
    record { value = v; back = says_back vec_items (Ok c.new.result) c.args.text.now v }

pub returns-in_default : goal.returns-in_default
unfolding bytes_of
returns-in_default c =
    let v : Says vec_items c.read_pairs.result (bytes_of c.args.text.now) = search rules in
    record { value = v; back = says_back vec_items c.read_pairs.result c.args.text.now v }
