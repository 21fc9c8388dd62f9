mod PlanTexts
mod NodeTexts
mod LeafNames
