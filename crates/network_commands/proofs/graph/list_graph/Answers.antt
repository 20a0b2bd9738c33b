use Rattle.network_commands.proofs.GraphLines.{plant_scene, network_scene}
use Rattle.network_commands.proofs.graph.list_graph.Goals as goal

pub returns-in-Plant : goal.returns-in-Plant
returns-in-Plant c =
    plant_scene (λ v. v.items) c.args.scene c.args.site.now c.args.first.now c.args.networks.now
    c.drawn.result c.in-Plant.is c.drawn.ensures

pub returns-in-Network : goal.returns-in-Network
returns-in-Network c =
    network_scene (λ v. v.items) c.args.scene c.args.site.now c.args.first.now c.args.networks.now
    c.drawn_alone.result c.in-Network.is c.drawn_alone.ensures
