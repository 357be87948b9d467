use Rattle.std.proofs.Common.{refl, []}
use Rattle.sonic_owned.proofs.Lent.{next_is, of_part, found_by, left_next}
use Rattle.sonic_owned.proofs.value.lend.lend_next.Goals as goal
use Rattle.sonic_owned.specs.Internal.Lends.{IsItemPut, HasItem, HasNoItem}
use Rattle.sonic_owned.specs.Opened.{IsClosedOf}
use Rattle.sonic_find.specs.Paths.{kind_of}
use Rattle.sonic_owned.specs.Views.{form}
use Rattle.sonic_pointer.specs.declared.node.PointerNode.{PointerNode}
use Rattle.sonic_pointer.specs.declared.node.PointerNode.TheVariants.{Key}

pub returns : goal.returns
returns g c =
    let path = c.args.way.now.nodes.now in
    let f = g.A.Opens.seen c.args.value.now in
    let r = c.lend_opened.result in
    let fits = c.if-left-way.false in
    let less = c.if-i-way.false in
    let d : PointerNode = Key (record { ref_ptr = (0, 0); now = [] }) in (
      (
        refl,
        (λ w is. of_part r _ _ (λ i. next_is path c.args.left d
            (λ node. IsItemPut node f i (form w) (g.A.Opens.seen (c.lend_opened.follows.lender w))) fits less) (c.lend_opened.follows.holds w is)),
        left_next r path c.args.left d _ _ fits less c.lend_opened.follows.holds-at-none,
      ),
      record {
        back = tt;
        found = found_by r _ _ _ _ _ _ (λ i. next_is path c.args.left d (λ node. HasItem node f i) fits less)
            (next_is path c.args.left d (λ node. HasNoItem node f) fits less)
            (λ opens some fits. next_is path c.args.left d (λ node. IsClosedOf (kind_of node) f) fits less opens) c.lend_opened.ensures.found;
      },
    )
