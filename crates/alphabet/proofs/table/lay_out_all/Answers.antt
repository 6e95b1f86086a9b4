-- `table::lay_out_all` meets its contract: the entries of all numbers, laid out in three parts.
use mathlib.Core.Path.{◌≡◌}
use native.Mathlib.Omega.{arith}
use borrow.Author.Rules.{rules}
use lib.ListN.{length}
use Rattle.alphabet.specs.code.Packing.{stored_table}
use Rattle.alphabet.proofs.Storage.{first-place, letter-place, later-place, all_laid}
use Rattle.alphabet.proofs.table.lay_out_all.Goals as goal

pub lay_out-requires : goal.lay_out-requires
lay_out-requires c =
    let is-stored : c.entries-stored.result.now ≡ stored_table = c.entries-stored.ensures in
    record {
      stored_value = is-stored;
      to_bound = omega arith;
      by_index = first-place _ _ _ (omega arith) (omega arith);
    }

pub lay_out-requires-2 : goal.lay_out-requires-2
lay_out-requires-2 c =
    let is-stored : c.entries-stored.result.now ≡ stored_table = c.entries-stored.ensures in
    record {
      stored_value = is-stored;
      to_bound = omega arith;
      by_index = letter-place _ _ _ (omega arith) (omega arith) (omega arith);
    }

pub lay_out-requires-3 : goal.lay_out-requires-3
lay_out-requires-3 c =
    let is-stored : c.entries-stored.result.now ≡ stored_table = c.entries-stored.ensures in
    record {
      stored_value = is-stored;
      to_bound = omega arith;
      by_index = later-place _ _ _ (omega arith) (omega arith);
    }

pub returns : goal.returns
returns c =
    let long : length c.args.table.now ≡ 384 = search rules in
    all_laid _ _ _ _ 0x61 0x7b c.lay_out-3.ensures c.lay_out-2.ensures c.lay_out.ensures
    long (omega arith) (omega arith)
