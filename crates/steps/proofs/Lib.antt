mod Lengths
mod Standing
mod Fields
mod Fronts
