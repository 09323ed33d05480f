use Rattle.std.proofs.Common.{rules}
use Rattle.vk_reading.proofs.Stores.{no_store, none_at, rows_stay, some_at, stores, words_stay}
use Rattle.vk_reading.proofs.cells.Cells.store.Goals as goal

pub returns-in_default-clause-value : goal.returns-in_default-clause-value
returns-in_default-clause-value c arrays events h =
    no_store c.args.self.now.rows.items arrays events c.args.p.array c.args.p.offset _ h
    (none_at c.args.self.now.rows.items c.args.p.array (search (c.get_mut.ensures.item, rules)))

pub returns-clause-value : goal.returns-clause-value
returns-clause-value c arrays events h =
    stores c.args.self.now.rows.items arrays events c.args.p.array c.args.p.offset _ c.in-Some.row.now _ c.convert-word.result c.put.result h
    (some_at c.args.self.now.rows.items c.args.p.array c.in-Some.row.now c.in-Some.ensures.item.3.0 c.in-Some.ensures.item.1)
    c.convert-word.ensures.canonical c.convert-word.ensures.number (search (c.put.ensures.words, rules))

pub returns-clause-rows : goal.returns-clause-rows
returns-clause-rows c arrays h =
    rows_stay c.args.self.now.rows.items arrays c.args.p.array c.args.p.offset c.in-Some.row.now _ c.convert-word.result c.put.result h
    (some_at c.args.self.now.rows.items c.args.p.array c.in-Some.row.now c.in-Some.ensures.item.3.0 c.in-Some.ensures.item.1) c.put.ensures.ty (search (c.put.ensures.words, rules))

pub returns-clause-words : goal.returns-clause-words
returns-clause-words c =
    words_stay c.args.self.now.rows.items c.args.p.array c.args.p.offset c.in-Some.row.now _ c.convert-word.result c.put.result c.requires.words
    (some_at c.args.self.now.rows.items c.args.p.array c.in-Some.row.now c.in-Some.ensures.item.3.0 c.in-Some.ensures.item.1) c.put.ensures.ty
    c.convert-word.ensures.canonical (search (c.put.ensures.words, rules))
