mod ShopRun
