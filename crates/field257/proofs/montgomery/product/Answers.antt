-- `field257::montgomery::product` meets its contract.
use Rattle.field257.proofs.MontgomeryProduct.{product_is}
use Rattle.field257.proofs.montgomery.product.Goals as goal

pub returns-clause-equals : goal.returns-clause-equals
returns-clause-equals c =
    let after-top = c.before.before in
    product_is after-top.args.a after-top.args.y after-top.requires.1 after-top.top.ensures c.bottom.ensures c.top-2.ensures
