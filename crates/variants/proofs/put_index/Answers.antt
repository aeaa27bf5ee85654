-- `variants::put_index` meets its contract.
use Rattle.variants.proofs.UnionTables.{index-over, index-before, index_same}
use Rattle.variants.proofs.put_index.Goals as goal

pub returns-then-out-lt5 : goal.returns-then-out-lt5
returns-then-out-lt5 c = λ b w. index-over b c.args.out.now c.args.i c.args.m _ c.if-out-lt5.true c.joined-n.ensures w

pub shape_of-out : goal.shape_of-out
shape_of-out c = index_same c.args.out.now _ _ _ c.if-out-lt5.false c.put4.ensures

pub returns : goal.returns
returns c = λ b w. index-before b c.args.out.now _ c.args.i c.args.m _ c.if-out-lt5.false c.put4.ensures c.joined-n.ensures w
