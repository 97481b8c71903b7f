mod Folding
mod Site
