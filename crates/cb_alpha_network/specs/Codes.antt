-- How the logic stores alpha networks.
use Rattle.std.specs.Prelude.{List, refl}
use Rattle.std.specs.Coded.{Coded, code_by, coded_list, coded_option, coded×}
use Rattle.cb_alpha_network.specs.Networks.{AlphaNetworkValue, MemoryValues, ShapeValues}
use Rattle.cb_alpha_network.specs.declared.user.User.{User}
use Rattle.cb_fit.specs.Shapes.{SelectionValue}

abbrev pub network_code : Coded SelectionValue → Coded User → Coded MemoryValues → Coded AlphaNetworkValue
network_code selection user memories =
    code_by (ShapeValues × (List User × MemoryValues)) (coded× (coded_list (coded_option selection)) (coded× (coded_list user) memories))
    (λ v. (v.shapes, (v.users, v.memories))) (λ p. record { shapes = p.0; users = p.1.0; memories = p.1.1 }) (λ _. refl)
